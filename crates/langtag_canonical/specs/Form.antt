-- How the canonical form of a tag is made. Only contracts of private functions cite this page.
use Rattle.std.specs.Prelude.{ℕ, List}
use Rattle.langtag_scan.specs.Grammar.{Record, Spells}
use Rattle.langtag.specs.Definitions.{lang_tag_text, normal_lang_tag_text}
use Rattle.langtag_canonical.specs.Canonical.{IsReplacedForm, canonical_text}
use Rattle.langtag_canonical.specs.declared.form.Form.{Form}
use Rattle.langtag_canonical.specs.declared.form.Form.TheVariants.{Same, Whole, Parts}

-- the value says what the canonical form of the text is: the text itself, another tag, or the canonical text of the
-- record of a normal tag
abbrev pub IsCanonicalAs : List ℕ → Form → Type 0
IsCanonicalAs text Same = IsReplacedForm text text
IsCanonicalAs text (Whole tag) = IsReplacedForm text (lang_tag_text tag)
IsCanonicalAs text (Parts tag) = (r : Record) × (Spells r (normal_lang_tag_text tag) × IsReplacedForm text (canonical_text r))
