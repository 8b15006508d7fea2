-- Where the parts of a normal tag are in its text (RFC 5646 section 2.1).
use Rattle.std.specs.Prelude.{◌≡◌, ℕ, List, [], take, unwrap_or}
use Rattle.langtag_scan.specs.Grammar.{ends_of, language_part, variants_part, extensions_part, private_use_part, text_between, Record}

-- the language is the text up to the language's end. Each other part begins after the hyphen that follows the previous
-- part, and goes up to its own end
pub record PartsStandIn (text : List ℕ) (r : Record) : Type 0 where
  pub language : take (ends_of r).language text ≡ language_part r
  pub script : text_between text (ends_of r).language (ends_of r).script ≡ r.script
  pub region : text_between text (ends_of r).script (ends_of r).region ≡ r.region
  pub variants : unwrap_or (text_between text (ends_of r).region (ends_of r).variants) [] ≡ variants_part r
  pub extensions : unwrap_or (text_between text (ends_of r).variants (ends_of r).extensions) [] ≡ extensions_part r
  pub private_use : text_between text (ends_of r).extensions (ends_of r).whole ≡ private_use_part r
