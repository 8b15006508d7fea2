-- Where the parts of a tag are in its text (RFC 5646 section 2.1).
use Rattle.std.specs.Prelude.{◌≡◌, ℕ, List, [], unwrap_or}
use Rattle.langtag_scan.specs.Grammar.{language_part, variants_part, extensions_part, private_use_part, Record}
use Rattle.langtag_scan.specs.declared.ends.Ends.{Ends}
use Rattle.langtag_c.specs.Spans.{IsWithin, empty_at, span_between, span_text}
use Rattle.langtag_c.specs.declared.parse.Parts.{Parts}
use Rattle.langtag_c.specs.declared.repeats.Repeated.{Repeated}

-- the spans of the parts of a normal tag, by the ends of the parts
abbrev pub spans_at : Ends → Parts
spans_at ends = record {
  language = record { start = 0; len = ends.language };
  script = span_between ends.language ends.script;
  region = span_between ends.script ends.region;
  variants = span_between ends.region ends.variants;
  extensions = span_between ends.variants ends.extensions;
  private_use = span_between ends.extensions ends.whole;
}

-- the spans of a private use tag of this length: the private use part is the whole text, and all other parts are empty
abbrev pub private_alone : ℕ → Parts
private_alone len = record {
  language = empty_at 0;
  script = empty_at 0;
  region = empty_at 0;
  variants = empty_at 0;
  extensions = empty_at 0;
  private_use = record { start = 0; len = len };
}

-- the spans of a text that is not a tag, or an irregular tag: all parts are empty
abbrev pub no_parts : Parts
no_parts = private_alone 0

-- the spans have the texts of the parts of a record; an absent part has an empty span
pub record ArePartsOf (text : List ℕ) (r : Record) (parts : Parts) : Type 0 where
  pub language : span_text text parts.language ≡ language_part r
  pub script : span_text text parts.script ≡ unwrap_or r.script []
  pub region : span_text text parts.region ≡ unwrap_or r.region []
  pub variants : span_text text parts.variants ≡ variants_part r
  pub extensions : span_text text parts.extensions ≡ extensions_part r
  pub private_use : span_text text parts.private_use ≡ unwrap_or (private_use_part r) []

-- each span is within the text
pub record AreWithin (text : List ℕ) (parts : Parts) : Type 0 where
  pub language : IsWithin text parts.language
  pub script : IsWithin text parts.script
  pub region : IsWithin text parts.region
  pub variants : IsWithin text parts.variants
  pub extensions : IsWithin text parts.extensions
  pub private_use : IsWithin text parts.private_use

-- what is written if nothing is repeated: two empty spans
abbrev pub none_repeated : Repeated
none_repeated = record { variant = empty_at 0; singleton = empty_at 0 }
