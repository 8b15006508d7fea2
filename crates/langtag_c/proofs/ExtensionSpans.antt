-- The first extension of a text that extensions spell, and what is left of it.
use Rattle.langtag_keyword.proofs.Common.{◌≡◌, ℕ, ◌<◌, ◌≤◌, ◌+◌, ◌-◌, true, List, [], ◌∷◌, ◌++◌, length, take, drop, Option, None, Some, inl, inr, refl, ap, sym, subst, ◌∙◌, arith, map, false, Bool, flat_map, list_all, position_or_len, AllByRecursion, eqb_tells, nat_tests, at_drop_more, drop-drop, drop-take, take-take, length-take, length-drop, drop_all, take_all, Extension, extension_flat, join, segments, segments_left, NoHyphenWithin, subtags, extension_texts, extension_spelling, SpellsExtensions, common_steps, IsSubtag, length_with_hyphens, before_key, is_new_key, keywords_after}
use Rattle.langtag_scan.proofs.Prelude.{Bor, MatchOption, slice_index, cases_lt, take-append-drop, join_with_byte-slice_split, slice_split_first, slice_split_none, take-length, fails_before_first}
use Rattle.langtag_extension.specs.ExtensionTexts.{IsFirstExtension, goes_on, opens, texts_left}
use Rattle.langtag_extension.proofs.ExtensionLookUp.{join-group_texts, join-spellings, group_texts-split}
use Rattle.langtag_extension.proofs.Rules.{extension_texts_spelled}
use Rattle.langtag_c.specs.Spans.{HasBytes, end_of, span_between, span_text, IsWithin}
use Rattle.langtag_c.specs.declared.span.Span.{Span}
use Rattle.langtag_range.specs.Element.{is_comma, is_ows, items}
use Rattle.langtag_c.specs.Negotiation.{filled_items}
use Rattle.langtag_scan.proofs.SubtagLists.{join-subtags, length-subtags, subtags-segments}
use Rattle.langtag_keyword.proofs.SubtagTexts.{segments-cut, segments-whole, length-before_key, take-before_key, keywords-other}
use Rattle.langtag_c.specs.Keywords.{HasSubtags, keywords_from, subtags_in}

-- what is left of a text, or nothing
left_text : Option (Bor (List ℕ)) → List ℕ
left_text None = []
left_text (Some rest) = rest.now

join-left : (rest : Option (Bor (List ℕ))) → join (segments_left rest) ≡ left_text rest
unfolding left_text
join-left None = refl
join-left (Some rest) = join_with_byte-slice_split 45 rest.now

-- a text is cut before an opening subtag: the texts of its extensions are the first and those of the rest
texts-cut :
    (text first : List ℕ) (rest : Option (Bor (List ℕ))) → 0 < length text → MatchOption rest (text ≡ first) (λ r. text ≡ first ++ 45 ∷ r.now) →
    list_all goes_on (drop 1 (segments first)) ≡ true → opens (segments_left rest) ≡ true → extension_texts text ≡ first ∷ texts_left rest
texts-cut text first rest some joined one next = grind (arith, nat_tests, group_texts-split)

-- so the first is the first extension, and the others spell the rest
first-cut :
    (e : Extension) (es : List Extension) (text first : List ℕ) (rest : Option (Bor (List ℕ))) → SpellsExtensions (e ∷ es) text → 0 < length text →
    MatchOption rest (text ≡ first) (λ r. text ≡ first ++ 45 ∷ r.now) → list_all goes_on (drop 1 (segments first)) ≡ true →
    opens (segments_left rest) ≡ true → (first ≡ extension_spelling e) × SpellsExtensions es (left_text rest)
first-cut e es text first rest spells some joined one next =
    let texts : first ∷ texts_left rest ≡ extension_spelling e ∷ map extension_spelling es =
    sym (texts-cut text first rest some joined one next) ∙ extension_texts_spelled (e ∷ es) text spells in
    let others : texts_left rest ≡ map extension_spelling es = cc in
    let joined : join (flat_map extension_flat es) ≡ left_text rest =
    sym (join-spellings es) ∙ ap join (sym others) ∙ join-group_texts (segments_left rest) ∙ join-left rest in
    (cc, record { members = spells.members.1; joined = joined })

-- the same at an index
pub first-taken :
    (e : Extension) (es : List Extension) (text : Bor (List ℕ)) (len : ℕ) → SpellsExtensions (e ∷ es) text.now → 0 < length text.now →
    IsFirstExtension text.now len →
    (take len text.now ≡ extension_spelling e) × SpellsExtensions es (drop (len + 1) text.now)
unfolding left_text
first-taken e es text len spells some is = elim (cases_lt len (length text.now)) [
  | inl below ↦
      let rest : Bor (List ℕ) = record text { now = drop (len + 1) text.now } in
      let cut : text.now ≡ take len text.now ++ 45 ∷ rest.now =
      sym (take-append-drop len text.now) ∙ ap (λ t. take len text.now ++ t) (at_drop_more (λ ts. ts) text.now len 0 below ∙ ap (λ b. b ∷ drop (len + 1) text.now) (is.hyphen below)) in
      first-cut e es text.now (take len text.now) (Some rest) spells some cut is.one (is.next below)
  | inr past ↦
      let within = is.within in
      let whole : text.now ≡ take len text.now = sym (ap (λ n. take n text.now) (let same : len ≡ length text.now = omega arith in same) ∙ take-length text.now) in
      let taken = first-cut e es text.now (take len text.now) None spells some whole is.one refl in
      (taken.0, subst (SpellsExtensions es) (sym (drop_all (len + 1) text.now (omega arith))) taken.1)
]

-- ---- spans

pub length-span : (text : List ℕ) (span : Span) → HasBytes text span → length (span_text text span) ≡ span.len
length-span text span has = omega (arith, length-take (end_of span - span.start) (drop span.start text), length-drop span.start text, has.1)

-- the subtags of a span, joined, have its length
pub length-in : (text : List ℕ) (span : Span) → IsWithin text span → length (join (subtags_in text span)) ≡ span.len
length-in text span within = ap length (join-subtags (span_text text span)) ∙ omega (arith, length-take (end_of span - span.start) (drop span.start text), length-drop span.start text, within)

-- so they go up to its end
pub up-to : (text : List ℕ) (span : Span) (start : ℕ) (ss : List (List ℕ)) → IsWithin text span → subtags_in text span ≡ ss → start ≡ span.start → start + length (join ss) ≡ end_of span
up-to text span start ss within is same = omega (arith, same, ap (λ ts. length (join ts)) is, length-in text span within)

-- some first bytes of a span
pub span-first :
    (text : List ℕ) (span : Span) (len : ℕ) → HasBytes text span → len ≤ span.len →
    span_text text (record { start = span.start; len = len }) ≡ take len (span_text text span)
span-first text span len has few = grind (arith, nat_tests, take-take len (end_of span - span.start) (drop span.start text))

-- what stands after them and a hyphen
pub span-rest :
    (text : List ℕ) (span : Span) (len : ℕ) → HasBytes text span → len ≤ span.len →
    span_text text (span_between (span.start + len) (end_of span)) ≡ drop (len + 1) (span_text text span)
span-rest text span len has few =
    let cut = drop-take (len + 1) (span.len - (len + 1)) (drop span.start text) in
    let all = drop_all (len + 1) (span_text text span) in
    let index = drop-drop (len + 1) span.start text in
    grind (arith, nat_tests, eqb_tells (span.start + len) (end_of span), length-span text span has, all, index, cut)

-- the text of some first bytes of a span, and of what stands after them
module _ (text part : List ℕ) (before : Span) (len : ℕ) (has : HasBytes text before) (is : part ≡ span_text text before) (within : len ≤ length part) where
  pub few : len ≤ before.len
  few = omega (arith, within, ap length is, length-span text before has)

  pub first_text : span_text text (record { start = before.start; len = len }) ≡ take len part
  first_text = span-first text before len has few ∙ ap (take len) (sym is)

  after_text : (after : Span) → after ≡ span_between (before.start + len) (end_of before) → span_text text after ≡ drop (len + 1) part
  after_text after rest = ap (span_text text) rest ∙ span-rest text before len has few ∙ ap (drop (len + 1)) (sym is)

-- the span that is taken has the first extension, and the others spell what is left
pub extension-taken :
    (text : List ℕ) (before after taken : Span) (part : Bor (List ℕ)) (len : ℕ) (e : Extension) (es : List Extension) →
    HasBytes text before → part.now ≡ span_text text before → IsFirstExtension part.now len → taken ≡ record { start = before.start; len = len } →
    after ≡ span_between (before.start + len) (end_of before) → SpellsExtensions (e ∷ es) (span_text text before) →
    (span_text text taken ≡ extension_spelling e) × SpellsExtensions es (span_text text after)
extension-taken text before after taken part len e es has is first taken_is after_is spells =
    let size : length part.now ≡ before.len = ap length is ∙ length-span text before has in
    let cut = first-taken e es part len (subst (SpellsExtensions (e ∷ es)) (sym is) spells) (omega (arith, size, has.0)) first in
    let rest = after_text text part.now before len has is first.within after after_is in
    (ap (span_text text) taken_is ∙ first_text text part.now before len has is first.within ∙ cut.0, subst (SpellsExtensions es) (sym rest) cut.1)

-- ---- the first item of a list

module _ (text : List ℕ) (len : ℕ) (first : len ≡ position_or_len is_comma text) (within : len ≤ length text) where
  item-cut : len < length text → items text ≡ take len text ∷ items (drop (len + 1) text)
  item-cut below = rw first (slice_split_first is_comma text 0 (omega (arith, first)))

  -- the last item, which is followed by no other
  item-last : length text ≤ len → items text ≡ take len text ∷ []
  item-last past = grind (arith, nat_tests, take_all len text past, fails_before_first is_comma text, slice_split_none is_comma text)

module _
    (header list : List ℕ) (before after : Span) (len : ℕ) (has : HasBytes header before) (is : list ≡ span_text header before)
    (within : len ≤ length list) (first : len ≡ position_or_len is_comma list) (rest : after ≡ span_between (before.start + len) (end_of before)) where
  rest_text : span_text header after ≡ drop (len + 1) list
  rest_text = after_text header list before len has is within after rest

  -- an empty item is passed over
  pub item_passed : is_ows (take len list) ≡ true → filled_items (span_text header after) ≡ filled_items (span_text header before)
  item_passed empty = grind (arith, nat_tests, cases_lt len (length list), item-cut list len first within, drop_all (len + 1) list, item-last list len first within, rest_text)

  -- and any other is the first
  pub item_taken :
      (item : Span) → is_ows (take len list) ≡ false → item ≡ record { start = before.start; len = len } →
      filled_items (span_text header before) ≡ span_text header item ∷ filled_items (span_text header after)
  item_taken item other item_is = grind (arith, nat_tests, first_text, cases_lt, item-cut, drop_all, item-last, rest_text)

-- ---- the first of some subtags

abbrev pub AreSubtags : List (List ℕ) → Type 0
AreSubtags ss = AllByRecursion IsSubtag ss

-- after a hyphen there is another subtag
after-hyphen : (first text : List ℕ) → AreSubtags (first ∷ segments text) → segments text ≡ subtags text
after-hyphen first text fits = grind (arith, nat_tests, IsSubtag)

-- the first subtag, and those after its hyphen
subtags-cut :
    (text : List ℕ) (len : ℕ) → len ≤ length text → NoHyphenWithin text 0 len → 0 < length text → (len < length text → slice_index text len ≡ 45) → AreSubtags (subtags text) →
    subtags text ≡ take len text ∷ subtags (drop (len + 1) text)
subtags-cut text len within free some hyphen all =
    grind (arith, nat_tests, cases_lt len (length text), subtags-segments, segments-cut text (take len text) (drop (len + 1) text) len, after-hyphen, drop_all, segments-whole text len, take_all len text)

module _
    (text part : List ℕ) (before after : Span) (len : ℕ) (has : HasBytes text before) (is : part ≡ span_text text before)
    (within : len ≤ length part) (free : NoHyphenWithin part 0 len) (hyphen : len < length part → slice_index part len ≡ 45)
    (rest : after ≡ span_between (before.start + len) (end_of before)) (some : HasSubtags text before) where
  -- the first subtag, and those that are left
  pub span-subtags : subtags_in text before ≡ take len part ∷ subtags_in text after
  span-subtags = grind (arith, nat_tests, subtags-cut part len within free, length-span text before has, after_text text part before len has is within after rest)

  -- which are not empty either
  pub span-left : end_of after ≡ end_of before → HasSubtags text after
  span-left ends = grind (arith, common_steps, span-subtags)

-- ---- some first subtags

-- how many bytes, and how many subtags, a span has at most
pub length-spanned : (text : List ℕ) (span : Span) → IsWithin text span → (length (span_text text span) ≤ length text) × (length (span_text text span) ≤ span.len)
length-spanned text span within = grind (arith, nat_tests, length-take (end_of span - span.start) (drop span.start text), length-drop span.start text)

pub length-subtags_in : (text : List ℕ) (span : Span) → IsWithin text span → length (subtags_in text span) ≤ length text + 1
length-subtags_in text span within = omega (arith, length-subtags (span_text text span), (length-spanned text span within).0)

-- what is left after one more
pub drop-next : (all : List (List ℕ)) (n : ℕ) (s : List ℕ) (ss : List (List ℕ)) → drop n all ≡ s ∷ ss → ss ≡ drop (n + 1) all
drop-next all n s ss left = sym (ap (drop 1) left) ∙ drop-drop 1 n all

-- a subtag that is no new key changes nothing of the keywords after `old` subtags
pub keywords-step :
    (opens : List ℕ → Bool) (all : List (List ℕ)) (n passed old : ℕ) (s : List ℕ) (rest : List (List ℕ)) → drop n all ≡ s ∷ rest → passed ≡ old →
    (passed ≤ n → is_new_key opens (take n all) s ≡ false) → (passed ≤ n → keywords_after opens (take n all) (s ∷ rest) ≡ keywords_from opens all old) →
    passed ≤ n + 1 → keywords_after opens (take (n + 1) all) rest ≡ keywords_from opens all old
keywords-step opens all n passed old s rest left kept closed same more = grind (arith, common_steps, drop-next, few, keywords-other)

-- ---- those before a key

-- the bytes of a span from its start on
pub span-before_key :
    (test : List ℕ → Bool) (text : List ℕ) (span : Span) (n : ℕ) → IsWithin text span → n ≡ length_with_hyphens (before_key test (subtags_in text span)) - 1 →
    (span_text text (record { start = span.start; len = n }) ≡ join (before_key test (subtags_in text span))) × IsWithin text (record { start = span.start; len = n })
span-before_key test text span n within is =
    let few : n ≤ span.len = omega (arith, is, length-before_key test (span_text text span), (length-spanned text span within).1) in
    grind (arith, nat_tests, few, take-take n span.len (drop span.start text), take-before_key test (span_text text span) n is)
