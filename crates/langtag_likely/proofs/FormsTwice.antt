-- The maximal and the minimal record of a record are their own, and each undoes the other.
use Rattle.langtag_scan.proofs.Prelude.{◌≡◌, ℕ, true, false, List, [], ◌∷◌, Option, None, Some, option_map, refl, sym, ap, ◌∙◌, arith, codes, ◌≤◌, length, map, inl, inr, ◌⊎◌, IsTrue, AllByRecursion, option_map_or, nat_tests}
use Rattle.langtag_scan.specs.Grammar.{AlikeRecords, fold_record, Alike, fold_text, are_alike, is_extended, Record, IsWellFormed}
use Rattle.langtag_text.proofs.Letters.{primary_length, extended_primary}
use Rattle.langtag_cldr.specs.Definitions.{or_other, filled, known, known_fields, add_likely, language_alone, without_script, without_region, likely_subtags, add_likely_subtags, canonical_fields, least, suffices}
use Rattle.langtag_likely.proofs.Definitions.{fields_of, if_read, is_read, language_field, put_fields, put_language, maximal_record, minimal_record}
use Rattle.langtag_text.specs.Fields.{Fields}
use Rattle.langtag_cldr.proofs.AddedTwice.{either_way, some_value, AreKnown, or_other_there}
use Rattle.langtag_cldr.proofs.CanonicalFields.{likely_added}
use Rattle.langtag_cldr.proofs.TableRows.{is_there}
use Rattle.langtag_cldr.proofs.AlikeFields.{alike_fields, is_prefix_of-alike, known-alike, known_fields-alike, suffices-alike, AlikeOptions, likely_added-alike, removed-alike, by_options}
use Rattle.langtag_text.proofs.Alike.{AlikeFields}

-- ---- one field

known_none : (unknown : List ℕ) → known unknown [] ≡ []
known_none unknown = grind arith

known_twice : (unknown a : List ℕ) → known unknown (known unknown a) ≡ known unknown a
known_twice unknown a = grind arith

alike_none : (a : List ℕ) → Alike a [] → a ≡ []
alike_none [] h = refl
alike_none (x ∷ a) h = absurd cc

-- a field that was filled has what was written
known_back : (unknown most few form v : List ℕ) → few ≡ known unknown most → Alike most form → form ≡ or_other few v → known unknown form ≡ few
known_back unknown most few form v is same made = grind (arith, alike_none, known-alike, known_twice)

language_back : (most form v : List ℕ) → Alike most form → form ≡ or_other most v → form ≡ most
language_back most form v same made = grind (arith, alike_none)

-- ---- fields that suffice

record Suffices (m few : Fields) : Type 0 where
  form : Fields
  v : Fields
  is : add_likely_subtags few ≡ Some form
  made : filled few v ≡ form
  same : AlikeFields m form

sufficed : (m few : Fields) → suffices m few ≡ true → Suffices m few
unfolding add_likely_subtags
sufficed m few h =
    some_value (add_likely likely_subtags (canonical_fields few)) (λ none. absurd (let lost : false ≡ true = sym (rw none refl) ∙ h in cc))
    (λ v some. record { form = filled few v; v = v; is = ap (option_map (filled few)) some; made = refl; same = alike_fields m (filled few v) (sym (rw some refl) ∙ h) })

-- ---- the fewest fields

pub record HasForm (m n : Fields) : Type 0 where
  pub form : Fields
  pub language : n.language ≡ m.language
  pub form_language : form.language ≡ m.language
  pub is_form : add_likely_subtags (known_fields n) ≡ Some form
  pub same : AlikeFields m form
  pub fewest : least form ≡ n

module _ (m : Fields) (again : add_likely_subtags (known_fields m) ≡ Some m) where
  abbrev a : Fields
  a = language_alone (known_fields m)

  abbrev b : Fields
  b = without_script (known_fields m)

  abbrev c : Fields
  c = without_region (known_fields m)

  module _ (form : Fields) (same : AlikeFields m form) where
    abbrev k : Fields
    k = known_fields form

    alone_same : suffices form (language_alone k) ≡ suffices m a
    alone_same = sym (suffices-alike m form a (language_alone k) same (record { language = same.language; script = refl; region = refl }))

    with_region_same : suffices form (without_script k) ≡ suffices m b
    with_region_same = grind (arith, nat_tests, suffices-alike, same, known_fields-alike)

    with_script_same : suffices form (without_region k) ≡ suffices m c
    with_script_same = grind (arith, nat_tests, suffices-alike, same, known_fields-alike)

  by_language : suffices m a ≡ true → HasForm m a
  by_language one = grind (arith, sufficed m a one, language_back m.language)

  by_region : suffices m a ≡ false → suffices m b ≡ true → HasForm m b
  by_region one two = grind (arith, sufficed m b two, language_back m.language, known_back (codes "ZZ") m.region, known_none, known_twice, alone_same, with_region_same)

  by_script : suffices m a ≡ false → suffices m b ≡ false → suffices m c ≡ true → HasForm m c
  by_script one two three =
      grind (arith, sufficed m c three, language_back m.language, known_back (codes "Zzzz") m.script, known_none, known_twice, alone_same, with_region_same, with_script_same)

  by_all : suffices m a ≡ false → suffices m b ≡ false → suffices m c ≡ false → HasForm m m
  by_all one two three = grind arith

  pub has_form : HasForm m (least m)
  has_form =
      either_way (suffices m a) (λ one. rw one (by_language one)) (λ one.
      either_way (suffices m b) (λ two. rw (one, two) (by_region one two)) (λ two.
      either_way (suffices m c) (λ three. rw (one, two, three) (by_script one two three)) (λ three. rw (one, two, three) (by_all one two three))))

-- ---- the language of a tag whose fields are put

there_by_length : (a : List ℕ) → 2 ≤ length a → is_there a ≡ true
there_by_length a h = grind arith

last_there : (p e : List ℕ) (es : List (List ℕ)) → AllByRecursion (λ s. IsTrue (is_extended s)) (e ∷ es) → is_there (language_field p (e ∷ es)) ≡ true
last_there p e [] all = there_by_length e (primary_length e (extended_primary e all.0))
last_there p e (f ∷ es) all = last_there p f es all.1

language_put :
    (p : List ℕ) (es : List (List ℕ)) (l : List ℕ) → is_there p ≡ true → AllByRecursion (λ s. IsTrue (is_extended s)) es → are_alike (codes "und") l ≡ false →
    language_field (put_language p es (or_other (language_field p es) l)) es ≡ or_other (language_field p es) l
language_put p es l there all not_und = grind (arith, or_other_there, last_there)

put_twice : (r : Record) (a b : Fields) → a.language ≡ b.language → put_fields (put_fields r a) b ≡ put_fields r b
put_twice r a b same = grind arith

-- ---- a record, and what likely subtags are added to it

fields_known : (r : Record) → AreKnown (fields_of r)
fields_known r = grind arith

abbrev IsRead : Record → Type 0
IsRead r = is_read r.primary r.extended ≡ true

-- fields that are put change no extended language, and no primary subtag before one
read_put : (r : Record) (f : Fields) → IsRead r → IsRead (put_fields r f)
read_put r f read = grind arith

max_of : (q : Record) (m : Fields) → IsRead q → add_likely_subtags (fields_of q) ≡ Some m → maximal_record q ≡ put_fields q m
unfolding maximal_record
max_of q m read is = rw (read, is) refl

min_of : (q : Record) (m : Fields) → IsRead q → add_likely_subtags (fields_of q) ≡ Some m → minimal_record q ≡ put_fields q (least m)
unfolding minimal_record
min_of q m read is = rw (read, is) refl

-- nothing is known of the record
record HasNone (r : Record) : Type 0 where
  max_is : maximal_record r ≡ r
  min_is : minimal_record r ≡ r

none_is : (r : Record) → add_likely_subtags (fields_of r) ≡ None → HasNone r
unfolding maximal_record minimal_record
none_is r is = grind arith

unread : (r : Record) → is_read r.primary r.extended ≡ false → HasNone r
unfolding maximal_record minimal_record
unread r is = record { max_is = rw is refl; min_is = rw is refl }

-- it has likely subtags
record HasMost (r : Record) : Type 0 where
  most : Fields
  read : IsRead r
  max_is : maximal_record r ≡ put_fields r most
  min_is : minimal_record r ≡ put_fields r (least most)
  again : add_likely_subtags (known_fields most) ≡ Some most
  fields : (n : Fields) → n.language ≡ most.language → fields_of (put_fields r n) ≡ known_fields n

read_forms : (r : Record) → IsWellFormed r → IsRead r → HasNone r ⊎ HasMost r
read_forms r fits read = some_value (add_likely_subtags (fields_of r)) (λ is. inl (none_is r is)) (λ m is.
    let h = likely_added (fields_of r) m (fields_known r) is in
    inr (record {
      most = m;
      read = read;
      max_is = max_of r m read is;
      min_is = min_of r m read is;
      again = h.again;
      fields = λ n same. grind (arith, language_put, primary_length);
    }))

forms_of : (r : Record) → IsWellFormed r → HasNone r ⊎ HasMost r
forms_of r fits = either_way (is_read r.primary r.extended) (read_forms r fits) (λ is. inl (unread r is))

-- ---- the laws

pub maximal-twice : (r : Record) → IsWellFormed r → maximal_record (maximal_record r) ≡ maximal_record r
maximal-twice r fits = elim (forms_of r fits) [
  | inl h ↦ ap maximal_record h.max_is
  | inr h ↦
      ap maximal_record h.max_is ∙ max_of (put_fields r h.most) h.most (read_put r h.most h.read) (ap add_likely_subtags (h.fields h.most refl) ∙ h.again)
      ∙ put_twice r h.most h.most refl ∙ sym h.max_is
]

pub minimal-of_maximal : (r : Record) → IsWellFormed r → minimal_record (maximal_record r) ≡ minimal_record r
minimal-of_maximal r fits = grind (arith, forms_of r fits, min_of, read_put r, put_twice r, has_form)

pub minimal-twice : (r : Record) → IsWellFormed r → minimal_record (minimal_record r) ≡ minimal_record r
minimal-twice r fits = grind (arith, forms_of r fits, has_form, min_of, read_put r, put_twice r)

-- ---- without regard to case

put-alike : (r q : Record) (a b : Fields) → AlikeRecords r q → AlikeFields a b → AlikeRecords (put_fields r a) (put_fields q b)
put-alike r q a b same h = grind arith

language_field-alike :
    (p q : List ℕ) (es fs : List (List ℕ)) → Alike p q → map fold_text es ≡ map fold_text fs → Alike (language_field p es) (language_field q fs)
language_field-alike p q [] [] h all = known-alike (codes "und") p q h
language_field-alike p q [] (f ∷ fs) h all = absurd cc
language_field-alike p q (e ∷ es) [] h all = absurd cc
language_field-alike p q (e ∷ []) (f ∷ []) h all = cc
language_field-alike p q (e ∷ []) (f ∷ g ∷ fs) h all = absurd cc
language_field-alike p q (e ∷ d ∷ es) (f ∷ []) h all = absurd cc
language_field-alike p q (e ∷ d ∷ es) (f ∷ g ∷ fs) h all = language_field-alike p q (d ∷ es) (g ∷ fs) h cc

pub fields-alike : (r q : Record) → AlikeRecords r q → AlikeFields (fields_of r) (fields_of q)
fields-alike r q same = grind (arith, language_field-alike)

option-alike : (r q : Record) (o p : Option Fields) → AlikeRecords r q → AlikeOptions o p → AlikeRecords (option_map_or (put_fields r) o r) (option_map_or (put_fields q) p q)
option-alike r q o p same = by_options (λ o p. AlikeRecords (option_map_or (put_fields r) o r) (option_map_or (put_fields q) p q)) same (λ a b alike. put-alike r q a b same alike) o p

is_read-alike : (p q : List ℕ) (es fs : List (List ℕ)) → Alike p q → map fold_text es ≡ map fold_text fs → is_read p es ≡ is_read q fs
is_read-alike p q [] [] h all = refl
is_read-alike p q [] (f ∷ fs) h all = absurd cc
is_read-alike p q (e ∷ es) [] h all = absurd cc
is_read-alike p q (e ∷ []) (f ∷ []) h all = is_prefix_of-alike p q e f h cc
is_read-alike p q (e ∷ []) (f ∷ g ∷ fs) h all = absurd cc
is_read-alike p q (e ∷ d ∷ es) (f ∷ []) h all = absurd cc
is_read-alike p q (e ∷ d ∷ es) (f ∷ g ∷ fs) h all = is_read-alike p q (d ∷ es) (g ∷ fs) h cc

if_read-alike : (r q : Record) (o p : Option Fields) → AlikeRecords r q → AlikeOptions o p → AlikeOptions (if_read r o) (if_read q p)
if_read-alike r q o p same options = grind (arith, is_read-alike r.primary q.primary r.extended q.extended)

pub maximal-alike : (r q : Record) → AlikeRecords r q → AlikeRecords (maximal_record r) (maximal_record q)
unfolding maximal_record
maximal-alike r q same = option-alike r q _ _ same (if_read-alike r q _ _ same (likely_added-alike (fields_of r) (fields_of q) (fields-alike r q same)))

pub minimal-alike : (r q : Record) → AlikeRecords r q → AlikeRecords (minimal_record r) (minimal_record q)
unfolding minimal_record
minimal-alike r q same = option-alike r q _ _ same (if_read-alike r q _ _ same (removed-alike (fields_of r) (fields_of q) (fields-alike r q same)))

pub maximal-of_minimal : (r : Record) → IsWellFormed r → AlikeRecords (maximal_record r) (maximal_record (minimal_record r))
maximal-of_minimal r fits = elim (forms_of r fits) [
  | inl h ↦ ap fold_record (ap maximal_record (sym h.min_is))
  | inr h ↦
      let n = least h.most in
      let form = has_form h.most h.again in
      let made : maximal_record (minimal_record r) ≡ put_fields r form.form =
      ap maximal_record h.min_is ∙ max_of (put_fields r n) form.form (read_put r n h.read) (ap add_likely_subtags (h.fields n form.language) ∙ form.is_form)
      ∙ put_twice r n form.form (form.language ∙ sym form.form_language) in
      ap fold_record h.max_is ∙ put-alike r r h.most form.form refl form.same ∙ ap fold_record (sym made)
]
