-- The texts of tags as the choice reads them. Only contracts of private functions cite this page.
use Rattle.std.specs.Prelude.{ℕ, Bool, true, List}
use Rattle.langtag_choice.specs.Prepared.{is_prepared_for}
use Rattle.langtag_choice.specs.declared.known_tag.KnownTag.{KnownTag}
use Rattle.langtag_choice.specs.declared.known_tag.KnownTag.TheVariants.{Prepared, Text}

-- the text of a tag
abbrev pub known_text : KnownTag → List ℕ
known_text (Text bytes) = bytes.now
known_text (Prepared bytes form) = bytes.now

-- whether what was kept of a tag, if it was prepared, is true of it
abbrev pub is_known : KnownTag → Bool
is_known (Text bytes) = true
is_known (Prepared bytes form) = is_prepared_for bytes.now form.now
