-- The first extension of a singleton, by where it stands in a tag.
use Rattle.langtag_keyword.proofs.Common.{◌≡◌, ◌+◌, ◌-◌, ◌≤◌, ℕ, Bool, List, [], length, unwrap_or, arith, ◌<◌, ◌∷◌, take, drop, map, find, Option, None, Some, refl, ap, sym, subst, ◌∙◌, position_or_len, eqb_tells, nat_tests, length-drop, take_all, drop-drop, drop-take, option_map_or, fold_byte, length-slice_split, is_extension_subtag, ends_of, EachRecord, Extension, Record, IsWellFormed, is_hyphen, subtags, of_extension_subtag, each_subtag, extension_texts, IsExtension, SpellsExtensions, extension_spelling, find_extension, extension_found, option_map, join, inl, inr, true, false, join, length_with_hyphens, drop_all, IsTrue, false≢true, value_of, zero, suc}
use Rattle.langtag_scan.proofs.Prelude.{eqb, slice_index_or, Bor, after_first, cases_lt}
use Rattle.langtag_scan.specs.Grammar.{text_between, extensions_part, segments, HasEnds, IsNormal, Spells}
use Rattle.std.proofs.lemmas.List.{drop_min}
use Rattle.langtag_c.specs.Spans.{span_text, span_between, HasBytes, IsWithin, end_of}
use Rattle.langtag_scan.specs.declared.ends.Ends.{Ends}
use Rattle.langtag_scan.proofs.SpelledTexts.{ends_ordered, ends_whole}
use Rattle.langtag_extension.specs.Decided.{opens_alike}
use Rattle.langtag_extension.specs.ExtensionTexts.{IsFirstExtension, opens}
use Rattle.langtag_extension.specs.Spelling.{IsExtensions}
use Rattle.langtag_extension.proofs.ExtensionLookUp.{find_spellings, first_byte-spelling, join-group_texts, subtags_found, subtags_not_found}
use Rattle.langtag_extension.proofs.Rules.{extension_texts_spelled}
use Rattle.langtag.proofs.PartRules.{extensions_found}
use Rattle.langtag_keyword.proofs.SubtagTexts.{length-more, subtags-after_singleton}
use Rattle.langtag_scan.proofs.SubtagLists.{join-subtags}
use Rattle.langtag_c.specs.Keywords.{AreAfter, BeginsWith, IsEnd, extensions_after, keywords_from, subtags_in}
use Rattle.langtag_keyword.specs.Keywords.{Keyword, is_new_key, subtags_of}
use Rattle.langtag_c.specs.declared.span.Span.{Span}
use Rattle.langtag_c.proofs.ExtensionSpans.{extension-taken, first_text, length-span, AreSubtags, length-spanned}

-- the span between two ends has what stands between them
pub between_text : (text : List ℕ) (before end : ℕ) → before ≤ end → span_text text (span_between before end) ≡ unwrap_or (text_between text before end) []
between_text text before end le = grind (arith, nat_tests, eqb_tells before end)

-- what stands after the first byte that passes a test is the end of the text
pub end_after_first :
    (p : ℕ → Bool) (text end : List ℕ) → end ≡ after_first p text →
    (length end ≤ length text) × (span_text text (record { start = length text - length end; len = length end }) ≡ after_first p text)
end_after_first p text end is = grind (arith, nat_tests, drop_min (position_or_len p text + 1) text, length-drop, take_all)

-- ---- all extensions of a tag

had-ends : (text : List ℕ) (ends : Ends) → IsNormal text → EachRecord text (λ r. ends ≡ ends_of r) → HasEnds text ends
unfolding IsNormal HasEnds
had-ends text ends (r, spells) each = (r, spells, each r spells)

pub extensions-span :
    (text : List ℕ) (ends : Ends) (span : Span) → IsNormal text → EachRecord text (λ r. ends ≡ ends_of r) →
    (ends.variants ≤ ends.extensions → span ≡ span_between ends.variants ends.extensions) → (ends.variants ≤ ends.extensions → end_of span ≡ ends.extensions) →
    EachRecord text (λ r. span_text text span ≡ extensions_part r) × IsWithin text span
extensions-span text ends span normal each is ending =
    let had = had-ends text ends normal each in
    let found = extensions_found text ends had in
    let between = between_text text ends.variants ends.extensions in
    grind (arith, nat_tests, ends_ordered text ends had, ends_whole text ends had, between, found)

pub extensions-end :
    (text : List ℕ) (ends : Ends) (span : Span) → IsNormal text → EachRecord text (λ r. ends ≡ ends_of r) →
    (ends.variants ≤ ends.extensions → end_of span ≡ ends.extensions) → EachRecord text (λ r. end_of span ≡ (ends_of r).extensions)
extensions-end text ends span normal each ending r spells =
    let ordered = ends_ordered text ends (had-ends text ends normal each) in
    ending (omega (arith, ordered)) ∙ ap (λ e. e.extensions) (each r spells)

-- ---- the first of some

-- no bytes
pub nothing-in : (text : List ℕ) (span : Span) → span.len ≡ 0 → span_text text span ≡ []
nothing-in text span none = grind (arith, nat_tests)

-- an extension has a singleton and a hyphen, and then subtags
pub after-singleton : (text : List ℕ) → IsExtension text → AreSubtags (subtags (drop 2 text)) × (2 ≤ length text)
after-singleton text (e, spelled) =
    let each = each_subtag is_extension_subtag of_extension_subtag e.subtags spelled.member.subtags in
    (subst AreSubtags (sym (subtags-after_singleton e text spelled)) each, grind (arith, nat_tests))

-- the first, which lies within the text, and those that are left
pub record IsStep (text : List ℕ) (before after taken : Span) (part : List ℕ) (len : ℕ) : Type 0 where
  pub texts : extension_texts (span_text text before) ≡ span_text text taken ∷ extension_texts (span_text text after)
  pub left : IsExtensions (span_text text after)
  pub first : IsExtension (span_text text taken)
  pub place : IsWithin text taken × (2 ≤ taken.len)
  pub bytes : span_text text taken ≡ take len part

pub extension-step :
    (text : List ℕ) (before after taken : Span) (part : Bor (List ℕ)) (len : ℕ) → IsExtensions (span_text text before) →
    HasBytes text before → part.now ≡ span_text text before → IsFirstExtension part.now len → taken ≡ record { start = before.start; len = len } →
    after ≡ span_between (before.start + len) (end_of before) → IsStep text before after taken part.now len
extension-step text before after taken part len ([], spells) has is first taken_is after_is = grind (arith, nat_tests, length-span text before has)
extension-step text before after taken part len (e ∷ es, spells) has is first taken_is after_is =
    let cut = extension-taken text before after taken part len e es has is first taken_is after_is spells in
    let one : IsExtension (span_text text taken) = (e, record { member = spells.members.0; joined = sym cut.0 }) in
    let few = first.within in
    record {
      texts = extension_texts_spelled (e ∷ es) (span_text text before) spells ∙ ap (λ t. t ∷ map extension_spelling es) (sym cut.0)
          ∙ ap (λ ts. span_text text taken ∷ ts) (sym (extension_texts_spelled es (span_text text after) cut.1));
      left = (es, cut.1);
      first = one;
      place = grind (arith, nat_tests, length-span, after-singleton (span_text text taken) one, length-spanned);
      bytes = ap (span_text text) taken_is ∙ first_text text part.now before len has is few;
    }

-- what stands behind them
pub without-singleton : (text : List ℕ) (taken : Span) → 2 ≤ taken.len → span_text text (record { start = taken.start + 2; len = taken.len - 2 }) ≡ drop 2 (span_text text taken)
without-singleton text taken some = grind (arith, nat_tests, drop-drop 2 taken.start text, drop-take 2 (taken.len - 2) (drop taken.start text))

pub opens-text : (b : ℕ) (text part : List ℕ) (len : ℕ) → text ≡ take len part → 0 < len → opens_alike b text ≡ eqb (fold_byte (slice_index_or part 0 0)) (fold_byte b)
opens-text b text part len is some = grind (arith, nat_tests)

-- the subtags of the first that opens with the byte
pub subtags-first :
    (b : ℕ) (text : List ℕ) (whole taken result : Span) (left : List (List ℕ)) → find (opens_alike b) left ≡ find (opens_alike b) (extension_texts (span_text text whole)) →
    find (opens_alike b) left ≡ Some (span_text text taken) → span_text text result ≡ drop 2 (span_text text taken) →
    (es : List Extension) → SpellsExtensions es (span_text text whole) → subtags_in text result ≡ option_map_or (λ e. e.subtags) (find_extension b es) []
subtags-first b text whole taken result left same found is es spells =
    subtags_found b es spells.members (span_text text taken) (subtags_in text result)
    (sym found ∙ same ∙ ap (find (opens_alike b)) (extension_texts_spelled es (span_text text whole) spells) ∙ find_spellings b es)
    (λ e spelled. ap subtags is ∙ subtags-after_singleton e (span_text text taken) spelled)

-- none where none does
pub subtags-none :
    (b : ℕ) (text : List ℕ) (whole rest result : Span) → find (opens_alike b) (extension_texts (span_text text rest)) ≡ find (opens_alike b) (extension_texts (span_text text whole)) →
    rest.len ≡ 0 → result.len ≡ 0 → (es : List Extension) → SpellsExtensions es (span_text text whole) →
    subtags_in text result ≡ option_map_or (λ e. e.subtags) (find_extension b es) []
subtags-none b text whole rest result same none empty es spells =
    ap subtags (nothing-in text result empty)
    ∙ subtags_not_found (find_extension b es)
    (ap (λ t. find (opens_alike b) (extension_texts t)) (sym (nothing-in text rest none)) ∙ same
    ∙ ap (find (opens_alike b)) (extension_texts_spelled es (span_text text whole) spells) ∙ find_spellings b es)

-- ---- where it ends

-- what stands after the first extension of a singleton, among extensions and among their texts
after-spellings : (b : ℕ) (es : List Extension) → after_first (opens_alike b) (map extension_spelling es) ≡ map extension_spelling (extensions_after b es)
after-spellings b [] = refl
after-spellings b (e ∷ es) = grind (arith, nat_tests, first_byte-spelling e, after-spellings b es)

-- it is what stands after a text that opens with the singleton, and that of the others after another text
pub after-opening : (p : List ℕ → Bool) (t : List ℕ) (ts : List (List ℕ)) → p t ≡ true → after_first p (t ∷ ts) ≡ ts
after-opening p t ts is = grind (arith, nat_tests)

pub after-other : (p : List ℕ → Bool) (t : List ℕ) (ts : List (List ℕ)) → p t ≡ false → after_first p (t ∷ ts) ≡ after_first p ts
after-other p t ts is = grind (arith, nat_tests)

-- the texts of extensions, each with a hyphen, have the length of the text with a hyphen
length-texts : (text : List ℕ) → 0 < length text → length_with_hyphens (extension_texts text) ≡ length text + 1
length-texts text some = by_texts (extension_texts text) (join-group_texts (subtags text) ∙ join-subtags text)
  where
    by_texts : (ts : List (List ℕ)) → join ts ≡ text → length_with_hyphens ts ≡ length text + 1
    by_texts [] is = absurd (omega (arith, some, ap length is))
    by_texts (t ∷ ts) is = omega (arith, length-more t ts, ap length is, some)

-- after the hyphen behind the first extension there is another one
more-after : (text : List ℕ) (len : ℕ) → IsFirstExtension text len → len < length text → len + 1 < length text
more-after text len first below = elim (cases_lt (len + 1) (length text)) [
  | inl more ↦ more
  | inr past ↦ absurd (false≢true (subst (λ t. IsTrue (opens (segments t))) (drop_all (len + 1) text past) (first.next below)))
]

pub end-first :
    (text part : List ℕ) (before after taken : Span) (len : ℕ) → HasBytes text before → part ≡ span_text text before → IsFirstExtension part len →
    taken ≡ record { start = before.start; len = len } → after ≡ span_between (before.start + len) (end_of before) →
    end_of taken + length_with_hyphens (extension_texts (span_text text after)) ≡ end_of before
end-first text part before after taken len has is first taken_is after_is =
    let size : length part ≡ before.len = ap length is ∙ length-span text before has in
    let few = first.within in
    elim (cases_lt len (length part)) [
      | inl below ↦
          let more = more-after part len first below in
          let same : after ≡ record { start = before.start + len + 1; len = before.len - len - 1 } = grind (arith, nat_tests) in
          let some : HasBytes text after = grind (arith, nat_tests) in
          omega (arith, length-texts (span_text text after) (omega (arith, length-span text after some, some.0)), length-span text after some, ap end_of taken_is, ap end_of same, ap (λ span. span.len) same)
      | inr past ↦
          let none : after.len ≡ 0 = grind (arith, nat_tests) in
          omega (arith, ap (λ t. length_with_hyphens (extension_texts t)) (nothing-in text after none), ap end_of taken_is)
    ]

-- in the words of a record
pub begins-with :
    (b : ℕ) (text : List ℕ) (subtags span : Span) (left : List (List ℕ)) (r : Record) → Spells r text → (0 < subtags.len → EachRecord text (λ r. IsEnd b r (end_of subtags))) →
    0 < length (subtags_in text subtags) → span.start + length (join left) ≡ end_of subtags → BeginsWith b left r span
begins-with b text subtags span left r spells end some same =
    let bytes : 0 < subtags.len = grind (arith, nat_tests, nothing-in text subtags) in
    subst (IsEnd b r) (sym same) (end bytes r spells)

-- some subtags, if there is a value or a keyword
pub some-valued : (is_key : List ℕ → Bool) (key value : List ℕ) (ss : List (List ℕ)) → Some value ≡ option_map join (value_of is_key key ss) → 0 < length ss
some-valued is_key key value [] is = absurd cc
some-valued is_key key value (s ∷ ss) is = omega arith

pub some-left : (is_key : List ℕ → Bool) (passed : ℕ) (keyword : Keyword) (keywords : List Keyword) (ss : List (List ℕ)) → keywords_from is_key ss passed ≡ keyword ∷ keywords → 0 < length ss
some-left is_key zero keyword keywords [] is = absurd cc
some-left is_key (suc n) keyword keywords [] is = absurd cc
some-left is_key passed keyword keywords (s ∷ ss) is = omega arith

pub end-of_record :
    (b : ℕ) (text : List ℕ) (span : Span) (end : ℕ) (r : Record) → IsWellFormed r → span_text text span ≡ extensions_part r → end_of span ≡ (ends_of r).extensions →
    end + length_with_hyphens (after_first (opens_alike b) (extension_texts (span_text text span))) ≡ end_of span → IsEnd b r end
end-of_record b text span end r well is ends same =
    let texts = extension_texts_spelled r.extensions (extensions_part r) (record { members = well.extensions; joined = refl }) in
    ap (λ ts. end + length_with_hyphens ts) (sym (after-spellings b r.extensions) ∙ ap (after_first (opens_alike b)) (sym texts ∙ ap extension_texts (sym is))) ∙ same ∙ ends

-- ---- an extension that is there has subtags

-- the first of a singleton, by its subtags
pub found-none : (r : Record) → IsWellFormed r → (b : ℕ) (f : Extension → List ℕ) → option_map_or (λ e. e.subtags) (find_extension b r.extensions) [] ≡ [] → None ≡ option_map f (find_extension b r.extensions)
found-none r well b f none = by_found (find_extension b r.extensions) refl none
  where
    by_found : (o : Option Extension) → find_extension b r.extensions ≡ o → option_map_or (λ e. e.subtags) o [] ≡ [] → None ≡ option_map f o
    by_found None is none = refl
    by_found (Some e) is none = absurd (omega (arith, ap length none, (extension_found b r.extensions well.extensions e is).some))

pub found-some :
    (es : List Extension) (b : ℕ) (f : List (List ℕ) → List ℕ) → 0 < length (option_map_or (λ e. e.subtags) (find_extension b es) []) →
    Some (f (option_map_or (λ e. e.subtags) (find_extension b es) [])) ≡ option_map (λ e. f e.subtags) (find_extension b es)
found-some es b f some = grind (arith, nat_tests)

-- some bytes have a subtag
pub some-in : (text : List ℕ) (span : Span) → 0 < span.len → IsWithin text span → 0 < length (subtags_in text span)
some-in text span some within = grind (arith, nat_tests, length-span text span (some, within), length-slice_split is_hyphen)

-- where a walk over the subtags of an extension stands, in the words of a record
pub are-after :
    (is_key : List ℕ → Bool) (b passed : ℕ) (text : List ℕ) (subtags key value : Span) (r : Record) → Spells r text →
    (0 < subtags.len → EachRecord text (λ r. IsEnd b r (end_of subtags))) → 0 < length (subtags_in text subtags) → subtags_in text subtags ≡ subtags_of b r →
    (IsTrue (is_new_key is_key (take (passed - 1) (subtags_in text subtags)) (span_text text key))
    × (key.start + length (join (drop (passed - 1) (subtags_in text subtags))) ≡ end_of subtags)
    × (value.start + length (join (drop passed (subtags_in text subtags))) ≡ end_of subtags)) → AreAfter is_key b passed text r key value
are-after is_key b passed text subtags key value r spells end some is place = record {
  new = subst (λ ss. IsTrue (is_new_key is_key (take (passed - 1) ss) (span_text text key))) is place.0;
  key_begins = begins-with b text subtags key (drop (passed - 1) (subtags_of b r)) r spells end some
      (subst (λ ss. key.start + length (join (drop (passed - 1) ss)) ≡ end_of subtags) is place.1);
  value_begins = begins-with b text subtags value (drop passed (subtags_of b r)) r spells end some
      (subst (λ ss. value.start + length (join (drop passed ss)) ≡ end_of subtags) is place.2);
}
