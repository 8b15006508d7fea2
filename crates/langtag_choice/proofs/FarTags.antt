-- Ranges as they are read, and tags that are far from a range, as their first letters and the numbers of languages show.
use Rattle.langtag_scan.proofs.Prelude.{◌≡◌, ◌⊎◌, inl, inr, ℕ, true, not, ◌==◌, List, [], ◌∷◌, length, length-drop, length-take, take, drop, filter, refl, sym, ap, ◌∙◌, arith, ◌&&◌, ◌||◌, codes, Bool, false, ◌<◌, ◌≤◌, ◌+◌, ◌-◌, ◌*◌, cond, get_or, Option, Some, None, option_map, nat_tests, eqb_tells, eqb-true, cases_lt, ◌++◌, common_steps, and_parts, both_ways, false_from_ne_true, or_parts, not-true, ForSome, list_all, after_first, before_first, subst, unwrap_or}
use Rattle.langtag_scan.specs.Grammar.{are_alike, fold_byte, are_alike-decides, subtags, are_letters, is_letter, is_primary}
use Rattle.std.proofs.Common.{lit≤}
use Rattle.langtag_range.proofs.AlikeTexts.{is_star-fold}
use Rattle.langtag_range.proofs.BasicForms.{basic_form-basic, basic_of, is_plain, IsBasicOf, is_language_range-from_basic, hyphened_range}
use Rattle.langtag_range.proofs.Among.{length-alike}
use Rattle.langtag_range.specs.Definitions.{ends_subtag, ends_in_single, basic_text, basic_form, are_extended_range, is_basic_range, is_language_range, is_star, hyphened, is_separator}
use Rattle.langtag_cldr.proofs.BaseTexts.{ends_read}
use Rattle.langtag_cldr.proofs.WholeTags.{cut, not_by_follow, not_by_three}
use Rattle.langtag_fields.specs.Fields.{preferred_tag}
use Rattle.langtag_cldr.proofs.CommonTexts.{rest_of, unmarked, none_extends, nothing_read, some_length, all_fields, next_part, no_fields}
use Rattle.langtag_cldr.specs.Definitions.{KeepsLanguage, base_text, current_text, matching_form, language_replaced, matching_fields, after_common, BeginsPlain, counted, fields_of_subtags, text_fields, language_of, counted_parts, language_aliases, Likely, language_alone, likely_for}
use Rattle.langtag_choice.specs.Nearness.{is_fallback, kept}
use Rattle.langtag_cldr.proofs.AddedTwice.{either_way}
use Rattle.langtag_text.specs.Numbers.{letter_number}
use Rattle.langtag_text.proofs.Letters.{letter_number-tells}
use Rattle.langtag_text.specs.Fields.{Fields}
use Rattle.langtag_cldr.proofs.AlikeFields.{completed_language}
use Rattle.langtag_text.proofs.Alike.{alike_length}
use Rattle.langtag_choice.specs.Distance.{distance_of_texts, language_distance}
use Rattle.langtag_choice.specs.FirstLetters.{IsFirst, IsNumberOf, first_two, is_changed}
use Rattle.langtag_choice.specs.NearLanguages.{AreFar, HasNumber, HasNumberOrNone, HaveOneLanguage}

-- ---- a range of a header, and "*"

pub basic_read : (range : List ℕ) → is_basic_range (hyphened range) ≡ true → basic_text range ≡ hyphened range
unfolding basic_text
basic_read range is = basic_form-basic (hyphened range) is

pub range_read : (range : List ℕ) → is_basic_range (hyphened range) ≡ true → is_language_range (hyphened range) ≡ true
range_read range = is_language_range-from_basic (hyphened range)

pub star_read : (range : List ℕ) → are_alike range (codes "*") ≡ is_star range
unfolding fold_byte
star_read range = is_star-fold range

-- ---- its matching form

pub counted_plain : (ss : List (List ℕ)) → counted (filter is_plain ss) ≡ counted ss
counted_plain [] = refl
counted_plain (s ∷ ss) = grind (arith, common_steps, counted_plain ss, is_plain)

-- each "-*" that is left out of a range stands behind its first subtag
pub read_subtags :
    {A : Type 0} (f : List (List ℕ) → A) →
    ((first : List ℕ) (others : List (List ℕ)) → f (first ∷ filter is_plain others) ≡ f (first ∷ others)) →
    (text : List ℕ) → is_language_range text ≡ true → f (subtags (basic_form text)) ≡ f (subtags text)
read_subtags {A} f same text is = by_subtags (subtags text) refl is (basic_of text is)
  where
    by_subtags :
        (ss : List (List ℕ)) → subtags text ≡ ss → are_extended_range ss ≡ true → IsBasicOf text (basic_form text) →
        f (subtags (basic_form text)) ≡ f (subtags text)
    by_subtags [] are range basic = absurd cc
    by_subtags (first ∷ others) are range basic = rw (basic.subtags first others are, are) (same first others)

fields_read : (text : List ℕ) → is_language_range text ≡ true → text_fields (basic_form text) ≡ text_fields text
unfolding text_fields
fields_read text is = read_subtags fields_of_subtags (λ first others. rw (counted_plain others) refl) text is

current_read : (o : Option (List ℕ)) (basic text : List ℕ) → text_fields basic ≡ text_fields text → text_fields (unwrap_or o basic) ≡ text_fields (unwrap_or o text)
current_read None basic text same = same
current_read (Some new) basic text same = refl

pub form_read : (range : List ℕ) → is_language_range (hyphened range) ≡ true → matching_form (basic_text range) ≡ matching_form range
unfolding matching_form basic_text
form_read range is =
    grind (arith, nat_tests, basic_of (hyphened range) is, hyphened_range (basic_form (hyphened range)), current_read, fields_read (hyphened range) is)

-- ---- what is left of it and of a tag

tag_left : (range tag : List ℕ) → are_alike (take (length tag) range) tag ≡ (length (after_common range tag).1 == 0)
tag_left [] tag = grind (arith, nat_tests, common_steps, some_length)
tag_left (a ∷ range) [] = refl
tag_left (a ∷ range) (b ∷ tag) = grind (arith, nat_tests, some_length b tag, tag_left range tag)

tag_dropped : (range tag : List ℕ) → (length (after_common range tag).1 == 0) ≡ true → drop (length tag) range ≡ (after_common range tag).0
tag_dropped [] tag none = grind (arith, common_steps)
tag_dropped (a ∷ range) [] none = refl
tag_dropped (a ∷ range) (b ∷ tag) none = grind (arith, tag_dropped range tag, some_length b tag)

range_left : (range tag : List ℕ) → are_alike range (take (length range) tag) ≡ (length (after_common range tag).0 == 0)
range_left [] tag = refl
range_left (a ∷ range) tag = grind (arith, nat_tests, common_steps, some_length a range, range_left range)

range_dropped : (range tag : List ℕ) → (length (after_common range tag).0 == 0) ≡ true → drop (length range) tag ≡ (after_common range tag).1
range_dropped [] tag none = refl
range_dropped (a ∷ range) tag none = grind (arith, common_steps, range_dropped range, some_length a range)

pub range_starts : (range tag left rest : List ℕ) → (left, rest) ≡ after_common (basic_text range) tag → (length rest == 0) ≡ are_alike (take (length tag) (basic_text range)) tag
range_starts range tag left rest is = ap (λ p. length p.1 == 0) is ∙ sym (tag_left (basic_text range) tag)

module _ (range tag left rest : List ℕ) (plain : BeginsPlain left) (is : (basic_text left, rest) ≡ after_common (basic_text range) tag) where
  -- a tag is what lookup falls back to if the range begins with it
  pub tag_begins : is_fallback (basic_text range) tag ≡ ((length rest == 0) && (ends_subtag (hyphened left) && ((length left == 0) || not (ends_in_single tag))))
  tag_begins =
      let begin = take (length tag) (basic_text range) in
      grind (arith, nat_tests, tag_left, tag_dropped, ends_read left plain, nothing_read left plain, length-alike begin tag, are_alike-decides begin tag, length-take, length-drop)

  -- a tag begins with a range, and ends or goes on with a hyphen
  pub range_begins : (are_alike (basic_text range) (take (length (basic_text range)) tag) && ends_subtag (drop (length (basic_text range)) tag)) ≡ ((length left == 0) && ends_subtag rest)
  range_begins = grind (arith, nat_tests, range_left, nothing_read, range_dropped)

-- ---- a language that does not change

-- the bit of each language that is replaced is set
abbrev is_listed : Likely → Bool
is_listed row = are_letters row.from.language && is_changed (letter_number row.from.language)

aliases_listed : list_all is_listed language_aliases ≡ true
unfolding language_aliases is_changed letter_number is_letter fold_byte
aliases_listed = refl

-- and so are those of `und`, and of the languages with which whole tags begin
abbrev is_set : List ℕ → Bool
is_set text = are_letters text && is_changed (letter_number text)

und_set : is_set (codes "und") ≡ true
unfolding is_changed letter_number is_letter fold_byte
und_set = refl

sgn_set : is_set (codes "sgn") ≡ true
unfolding is_changed letter_number is_letter fold_byte
sgn_set = refl

art_set : is_set (codes "art") ≡ true
unfolding is_changed letter_number is_letter fold_byte
art_set = refl

-- a language whose bit is not set is none of those whose bits are set
module _ (language word : List ℕ) (letters : are_letters language ≡ true) (absent : is_changed (letter_number language) ≡ false) (is : is_set word ≡ true) where
  apart : are_alike word language ≡ false
  apart = grind (arith, nat_tests, common_steps, false_from_ne_true, and_parts, eqb_tells (letter_number language) (letter_number word), both_ways, letter_number-tells word language)

  apart_from : are_alike language word ≡ false
  apart_from = grind (arith, nat_tests, common_steps, false_from_ne_true, and_parts, eqb_tells (letter_number word) (letter_number language), both_ways, letter_number-tells language word)

module _ (key : Fields) (letters : are_letters key.language ≡ true) (absent : is_changed (letter_number key.language) ≡ false) where
  no_alias : (rows : List Likely) → list_all is_listed rows ≡ true → likely_for rows (language_alone key) ≡ None
  no_alias [] all = refl
  no_alias (row ∷ rows) all =
      grind (arith, nat_tests, and_parts (is_listed row) (list_all is_listed rows) all, apart key.language row.from.language letters absent, no_alias rows)

  not_replaced : language_replaced key ≡ key
  unfolding language_replaced
  not_replaced = rw (no_alias language_aliases aliases_listed) refl

-- ---- heads

head-take : (n : ℕ) (text : List ℕ) → 2 ≤ length (take n text) → first_two (take n text) ≡ first_two text
head-take n text long = grind (arith, common_steps)

head-alike : (a b : List ℕ) → are_alike a b ≡ true → first_two a ≡ first_two b
head-alike a b alike = grind (arith, nat_tests, common_steps, and_parts, eqb-true)

head-filled : (text : List ℕ) (letters : ℕ × ℕ) → first_two text ≡ Some letters → first_two (text ++ 0 ∷ []) ≡ Some letters
head-filled text letters is = grind (arith, common_steps)

-- a range that begins with two bytes of it, and one that is its first byte
pub begins_with_two :
    (basic range : List ℕ) (letters : ℕ × ℕ) → are_alike (take (length (take 2 range)) basic) (take 2 range) ≡ true → first_two range ≡ Some letters → first_two (basic ++ 0 ∷ []) ≡ Some letters
begins_with_two basic range letters starts is =
    grind (arith, nat_tests, common_steps, head-alike, alike_length, head-filled, head-take)

pub begins_with_one : (basic range : List ℕ) → 1 ≤ length range → are_alike basic (take 1 range) ≡ true → first_two (basic ++ 0 ∷ []) ≡ Some (fold_byte (get_or range 0 0), 0)
unfolding fold_byte
begins_with_one basic [] some alike = absurd (omega (arith, some))
begins_with_one [] (a ∷ range) some alike = absurd cc
begins_with_one (b ∷ []) (a ∷ range) some alike = grind (arith, nat_tests, and_parts, eqb-true)
begins_with_one (b ∷ c ∷ basic) (a ∷ range) some alike = let long = alike_length (b ∷ c ∷ basic) (a ∷ []) alike in absurd (omega (arith, long))

-- what holds of a value holds of each value of it as an option
pub for_some : {A : Type 0} (P : A → Type 0) (a x : A) → Some a ≡ Some x → P a → P x
for_some P a x is holds = let same : a ≡ x = cc in subst P same holds

-- ---- the numbers of letters

pub letter_of : (b small number : ℕ) → small ≡ fold_byte b → 97 ≤ small → small ≤ 122 → number ≡ small - 97 + 1 → IsNumberOf (b ∷ []) number
unfolding letter_number is_letter fold_byte
letter_of b small number is from to number_is = grind (arith, nat_tests)

pub number_of_pair : (a b x y : ℕ) → IsNumberOf (a ∷ []) x → IsNumberOf (b ∷ []) y → IsNumberOf (a ∷ b ∷ []) (x * 26 + y)
unfolding letter_number
number_of_pair a b x y first second = grind (arith, nat_tests, common_steps, and_parts, first.letters, first.value, second.letters, second.value)

pub number_of_triple : (a b c x y : ℕ) → IsNumberOf (a ∷ b ∷ []) x → IsNumberOf (c ∷ []) y → IsNumberOf (a ∷ b ∷ c ∷ []) (x * 26 + y)
unfolding letter_number
number_of_triple a b c x y first second = grind (arith, nat_tests, common_steps, and_parts, first.letters, first.value, second.letters, second.value)

-- ---- letters at the start of a text are its first subtag

letter_unmarked : (x : ℕ) → is_letter x ≡ true → is_separator x ≡ false
unfolding is_letter
letter_unmarked x letter = grind (arith, nat_tests)

module _ (a b n : ℕ) (is : IsNumberOf (a ∷ b ∷ []) n) where
  two_free : (is_separator a ≡ false) × (is_separator b ≡ false)
  two_free = grind (arith, nat_tests, and_parts, letter_unmarked, is.letters)

  two_whole : IsFirst (a ∷ b ∷ []) n []
  two_whole = grind (arith, common_steps, is.letters, is.value, two_free, unmarked a (b ∷ []), unmarked b [])

  two_marked : (m : ℕ) (rest : List ℕ) → is_separator m ≡ true → IsFirst (a ∷ b ∷ m ∷ rest) n rest
  two_marked m rest mark = grind (arith, common_steps, is.letters, is.value, two_free, unmarked a (b ∷ m ∷ rest), unmarked b (m ∷ rest), cut m rest)

module _ (a b c n : ℕ) (is : IsNumberOf (a ∷ b ∷ c ∷ []) n) where
  three_free : (is_separator a ≡ false) × (is_separator b ≡ false) × (is_separator c ≡ false)
  three_free = grind (arith, nat_tests, and_parts, letter_unmarked, is.letters)

  three_whole : IsFirst (a ∷ b ∷ c ∷ []) n []
  three_whole = grind (arith, common_steps, is.letters, is.value, three_free, unmarked a (b ∷ c ∷ []), unmarked b (c ∷ []), unmarked c [])

  three_marked : (m : ℕ) (rest : List ℕ) → is_separator m ≡ true → IsFirst (a ∷ b ∷ c ∷ m ∷ rest) n rest
  three_marked m rest mark =
      grind (arith, common_steps, is.letters, is.value, three_free, unmarked a (b ∷ c ∷ m ∷ rest), unmarked b (c ∷ m ∷ rest), unmarked c (m ∷ rest), cut m rest)

pub first_two_alone : (text : List ℕ) (n : ℕ) → 2 ≤ length text → length text < 3 → IsNumberOf (get_or text 0 0 ∷ get_or text 1 0 ∷ []) n → IsFirst text n []
first_two_alone [] n some few is = absurd (omega (arith, some))
first_two_alone (a ∷ []) n some few is = absurd (omega (arith, some))
first_two_alone (a ∷ b ∷ []) n some few is = two_whole a b n is
first_two_alone (a ∷ b ∷ c ∷ text) n some few is = absurd (omega (arith, few))

pub first_two_marked :
    (text : List ℕ) (n : ℕ) → 3 ≤ length text → is_separator (get_or text 2 0) ≡ true → IsNumberOf (get_or text 0 0 ∷ get_or text 1 0 ∷ []) n → IsFirst text n (take (length text - 3) (drop 3 text))
first_two_marked [] n some mark is = absurd (omega (arith, some))
first_two_marked (a ∷ []) n some mark is = absurd (omega (arith, some))
first_two_marked (a ∷ b ∷ []) n some mark is = absurd (omega (arith, some))
first_two_marked (a ∷ b ∷ m ∷ text) n some mark is = subst (IsFirst (a ∷ b ∷ m ∷ text) n) (sym (rest_of 3 (a ∷ b ∷ m ∷ text))) (two_marked a b n is m text mark)

pub first_three_alone :
    (text : List ℕ) (n : ℕ) → 3 ≤ length text → length text < 4 → IsNumberOf (get_or text 0 0 ∷ get_or text 1 0 ∷ get_or text 2 0 ∷ []) n → IsFirst text n []
first_three_alone [] n some few is = absurd (omega (arith, some))
first_three_alone (a ∷ []) n some few is = absurd (omega (arith, some))
first_three_alone (a ∷ b ∷ []) n some few is = absurd (omega (arith, some))
first_three_alone (a ∷ b ∷ c ∷ []) n some few is = three_whole a b c n is
first_three_alone (a ∷ b ∷ c ∷ d ∷ text) n some few is = absurd (omega (arith, few))

pub first_three_marked :
    (text : List ℕ) (n : ℕ) → 4 ≤ length text → is_separator (get_or text 3 0) ≡ true → IsNumberOf (get_or text 0 0 ∷ get_or text 1 0 ∷ get_or text 2 0 ∷ []) n →
    IsFirst text n (take (length text - 4) (drop 4 text))
first_three_marked [] n some mark is = absurd (omega (arith, some))
first_three_marked (a ∷ []) n some mark is = absurd (omega (arith, some))
first_three_marked (a ∷ b ∷ []) n some mark is = absurd (omega (arith, some))
first_three_marked (a ∷ b ∷ c ∷ []) n some mark is = absurd (omega (arith, some))
first_three_marked (a ∷ b ∷ c ∷ m ∷ text) n some mark is =
    subst (IsFirst (a ∷ b ∷ c ∷ m ∷ text) n) (sym (rest_of 4 (a ∷ b ∷ c ∷ m ∷ text))) (three_marked a b c n is m text mark)

-- ---- the language of a text

module _ (text rest : List ℕ) (number : ℕ) (begins : IsFirst text number rest) (keeps : KeepsLanguage rest) (absent : is_changed number ≡ false) where
  abbrev first : List ℕ
  first = before_first is_separator text

  first_absent : is_changed (letter_number first) ≡ false
  first_absent = ap is_changed (sym begins.first.value) ∙ absent

  not_und : are_alike (codes "und") first ≡ false
  not_und = apart first (codes "und") begins.first.letters first_absent und_set

  -- the language is the text before the first separator
  language_first : is_primary first ≡ true → language_of first (counted_parts (after_first is_separator text)) ≡ first
  language_first primary = grind (arith, nat_tests, not_und, begins.follows, next_part, or_parts, not-true, unmarked, some_length, none_extends, keeps.counted, keeps.extended)

  text_language : (f : Fields) → text_fields (hyphened text) ≡ Some f → f.language ≡ first
  text_language f is = grind (arith, either_way, all_fields, language_first, no_fields)

  -- the text is not replaced as a whole
  not_whole : preferred_tag (base_text (basic_text text)) ≡ None
  not_whole = by_length (cases_lt 2 (length first))
    where
      by_length : (2 < length first) ⊎ (length first ≤ 2) → preferred_tag (base_text (basic_text text)) ≡ None
      by_length (inl more) =
          let letters = begins.first.letters in
          not_by_three text (omega (arith, more, begins.few)) (apart_from first (codes "sgn") letters first_absent sgn_set) (apart_from first (codes "art") letters first_absent art_set)
      by_length (inr few) = not_by_follow text (omega (arith, few, begins.some)) (subst KeepsLanguage begins.follows keeps)

  pub language_of_first : ForSome (matching_form text) (HasNumber number)
  unfolding matching_form
  language_of_first = by_und (are_alike (basic_text text) (codes "und"))
    where
      by_fields : (o : Option Fields) → text_fields (hyphened text) ≡ o → ForSome (option_map matching_fields o) (HasNumber number)
      by_fields None is form made = absurd cc
      by_fields (Some f) is form made =
          let there = text_language f is in
          let letters = ap are_letters there ∙ begins.first.letters in
          let is_number : letter_number f.language ≡ number = ap letter_number there ∙ sym begins.first.value in
          let same = not_replaced f letters (ap is_changed is_number ∙ absent) in
          grind (arith, same, there, begins.few, completed_language (language_replaced f))

      own : text_fields (current_text text) ≡ text_fields (hyphened text)
      own = ap (λ o. text_fields (unwrap_or o (hyphened text))) not_whole

      by_und : (b : Bool) → ForSome (cond b None (option_map matching_fields (text_fields (current_text text)))) (HasNumber number)
      by_und b form made = grind (arith, own, by_fields (text_fields (hyphened text)) refl form)

-- ---- how far it is

-- a tag that begins otherwise than a range is not the range
unalike : (letters begin : ℕ × ℕ) (range tag : List ℕ) → first_two (range ++ 0 ∷ []) ≡ Some letters → first_two tag ≡ Some begin → (begin ≡ letters → ⊥) → are_alike range tag ≡ false
unalike letters begin range tag starts is other = grind (arith, false_from_ne_true, head-filled range begin, head-alike range tag)

-- a range and a tag whose languages are far
pub far_by_numbers :
    (own other : ℕ) (letters begin : ℕ × ℕ) (range tag : List ℕ) → AreFar own other → ForSome (matching_form range) (HasNumberOrNone own) → first_two (range ++ 0 ∷ []) ≡ Some letters →
    first_two tag ≡ Some begin → (begin ≡ letters → ⊥) → ForSome (matching_form tag) (HasNumber other) → 50 ≤ distance_of_texts range tag
unfolding distance_of_texts
far_by_numbers own other letters begin range tag far desired starts is apart supported = grind (arith, nat_tests, lit≤, unalike letters begin range tag starts is apart)

-- a range without a matching form
pub far_without_form :
    (letters begin : ℕ × ℕ) (range tag : List ℕ) → matching_form range ≡ None → first_two (range ++ 0 ∷ []) ≡ Some letters → first_two tag ≡ Some begin → (begin ≡ letters → ⊥) →
    50 ≤ distance_of_texts range tag
unfolding distance_of_texts
far_without_form letters begin range tag none starts is apart = grind (arith, nat_tests, lit≤, unalike letters begin range tag starts is apart)

-- languages with one number are equal
pub one_language :
    (own other : ℕ) (r t : Option Fields) → ForSome r (HasNumberOrNone own) → ForSome t (HasNumber other) → (other ≡ 0 → ⊥) → own ≡ other → HaveOneLanguage r t
one_language own other r t own_is other_is some same d s d_is s_is =
    let tells = letter_number-tells d.language s.language in
    grind (arith, nat_tests, cases_lt 3 (length d.language), own_is d d_is, other_is s s_is, tells)

pub none_between_forms : (r t : Option Fields) (d s : Fields) → HaveOneLanguage r t → r ≡ Some d → t ≡ Some s → 0 ≡ language_distance d s
unfolding language_distance
none_between_forms r t d s one r_is t_is = grind arith

-- ---- what lookup keeps

pub nothing_kept :
    (letters begin : ℕ × ℕ) (range tag : List ℕ) → first_two (range ++ 0 ∷ []) ≡ Some letters → first_two tag ≡ Some begin → (begin ≡ letters → ⊥) → kept range tag ≡ 0
unfolding kept
nothing_kept letters begin range tag starts is other =
    grind (arith, nat_tests, common_steps, false_from_ne_true, head-alike, alike_length, head-filled, head-take)
