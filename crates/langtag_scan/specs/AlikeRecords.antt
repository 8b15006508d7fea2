-- Records of normal tags, compared ignoring the case of letters (RFC 5646 section 2.1.1).
use Rattle.std.specs.Prelude.{◌≡◌, ℕ, List, map, option_map}
use Rattle.langtag_scan.specs.Case.{fold_byte, fold_text}
use Rattle.langtag_scan.specs.Ends.{ends_of}
use Rattle.langtag_scan.specs.Record.{Extension, PrivateUse, Record, Spells}

abbrev pub fold_extension : Extension → Extension
fold_extension e = record { singleton = fold_byte e.singleton; subtags = map fold_text e.subtags }

abbrev pub fold_private_use : PrivateUse → PrivateUse
fold_private_use p = record { mark = fold_byte p.mark; subtags = map fold_text p.subtags }

-- the record with each of its subtags in lowercase
abbrev pub fold_record : Record → Record
fold_record r = record {
  primary = fold_text r.primary;
  extended = map fold_text r.extended;
  script = option_map fold_text r.script;
  region = option_map fold_text r.region;
  variants = map fold_text r.variants;
  extensions = map fold_extension r.extensions;
  private_use = option_map fold_private_use r.private_use;
}

-- two records have equal parts, ignoring the case of letters: each part has the same number of subtags in both records,
-- and the subtags are equal, ignoring case
abbrev pub AlikeRecords : Record → Record → Type 0
AlikeRecords r q = fold_record r ≡ fold_record q

-- some record q spells the text; q equals r, ignoring case, and the parts of both records end at the same offsets
abbrev pub IsSpelledAlike : Record → List ℕ → Type 0
IsSpelledAlike r text = (q : Record) × Spells q text × AlikeRecords r q × (ends_of r ≡ ends_of q)
