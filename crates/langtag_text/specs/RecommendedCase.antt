-- The case that RFC 5646 section 2.1.1 recommends for the letters of a tag. Case does not change what a tag means.
use Rattle.std.specs.Prelude.{◌==◌, ℕ, ◌||◌, List, [], ◌∷◌, ◌++◌, if◌then◌else◌, length, map, option_map}
use Rattle.langtag_scan.specs.Grammar.{to_ascii_uppercase, list_any, fold_text, fold_extension, fold_private_use, is_single, Record, join, segments}

-- the text in uppercase
abbrev pub capital_text : List ℕ → List ℕ
capital_text subtag = map to_ascii_uppercase subtag

-- the text in titlecase: the first letter in uppercase, and the other letters in lowercase
abbrev pub title_text : List ℕ → List ℕ
title_text [] = []
title_text (b ∷ subtag) = to_ascii_uppercase b ∷ fold_text subtag

-- "two-letter subtags are all uppercase .. and four-letter subtags are titlecase"; all other subtags are in lowercase
abbrev pub by_length : List ℕ → List ℕ
by_length subtag = if length subtag == 2 then capital_text subtag else if length subtag == 4 then title_text subtag else fold_text subtag

-- a subtag in its recommended case: lowercase at the start of the tag and anywhere after a singleton, and otherwise by
-- its length. `before` lists the subtags before it
abbrev pub recommended_subtag : List (List ℕ) → List ℕ → List ℕ
recommended_subtag before subtag = if (length before == 0) || list_any is_single before then fold_text subtag else by_length subtag

-- the given subtags in their recommended case, if they come after the subtags in `before`
abbrev pub recommended_after : List (List ℕ) → List (List ℕ) → List (List ℕ)
recommended_after before [] = []
recommended_after before (subtag ∷ subtags) = recommended_subtag before subtag ∷ recommended_after (before ++ subtag ∷ []) subtags

-- the text with each of its subtags in the recommended case
abbrev pub recommended_text : List ℕ → List ℕ
recommended_text text = join (recommended_after [] (segments text))

-- the record in the recommended case: the script is in titlecase, the region in uppercase, and all other subtags in
-- lowercase
abbrev pub recommended_record : Record → Record
recommended_record r = record {
  primary = fold_text r.primary;
  extended = map fold_text r.extended;
  script = option_map title_text r.script;
  region = option_map capital_text r.region;
  variants = map fold_text r.variants;
  extensions = map fold_extension r.extensions;
  private_use = option_map fold_private_use r.private_use;
}
