-- The tags of a site.
use Rattle.std.specs.Prelude.{List, map}
use Rattle.langtag.specs.declared.lang_tag.LangTag.{LangTag}
use Rattle.langtag_choice.specs.declared.prepared_tag.PreparedTag.{PreparedTag}

-- the tags that were prepared
abbrev pub prepared_tags : List PreparedTag → List LangTag
prepared_tags prepared = map (λ p. p.tag) prepared
