-- A catalogue of texts, each for a language tag.
use Rattle.std.specs.Prelude.{ℕ, List, Option}
use Rattle.std.specs.Map.{lookup}
use Rattle.std.specs.Option.{option_map}
use Rattle.std.specs.String.{string_bytes}
use Rattle.langtag.specs.Definitions.{are_alike, lang_tag_buf_text}
use Rattle.langtag_examples.specs.declared.catalogue.Catalogue.{Catalogue}

-- the text for the tag that equals these bytes, ignoring case
abbrev pub text_for : Catalogue → List ℕ → Option (List ℕ)
text_for catalogue tag = option_map string_bytes (lookup (λ key. are_alike tag (lang_tag_buf_text key)) catalogue.texts.entries)
