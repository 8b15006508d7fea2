-- What a span of a span has.
use Rattle.langtag_keyword.proofs.Common.{◌≡◌, ℕ, ◌+◌, ◌-◌, ◌≤◌, List, length, take, drop, ap, arith, zero, suc, [], ◌∷◌, ◌++◌, map, slice_get, Option, Some, refl, sym, append_assoc, drop-drop, drop-take, take-take, length-take, length-append, nat_tests, common_steps, flat_map, sum_by, slice_get-map, ends_of, to_variants, Record, Extension, IsWellFormed, extension_flat, join, hyphenated, SpellsExtensions, extension_spelling, is_some, option_map}
use Rattle.langtag_c.specs.Spans.{end_of, span_text}
use Rattle.langtag_c.specs.declared.span.Span.{Span}
use Rattle.std.specs.List.{scan}
use Rattle.langtag_scan.proofs.Prelude.{option_and_then, slice_range}
use Rattle.langtag_scan.specs.Grammar.{to_region, extensions_part}
use Rattle.std.proofs.lemmas.List.Concat.{length-flat_map}
use Rattle.langtag_scan.proofs.Joins.{hyphenated-append, join-hyphenated, length-join-append}
use Rattle.langtag_c.specs.Members.{member_span}

-- a span of the first bytes
pub front_text : (text : List ℕ) (n : ℕ) (span : Span) → end_of span ≤ n → span_text (take n text) span ≡ span_text text span
front_text text n span few =
    let more = drop-take span.start (n - span.start) text in
    grind (arith, nat_tests, more, take-take span.len (n - span.start) (drop span.start text))

-- a span of a span
pub inner_text :
    (text : List ℕ) (outer inner : Span) → end_of inner ≤ length (span_text text outer) →
    span_text (span_text text outer) inner ≡ span_text text (record { start = outer.start + inner.start; len = inner.len })
inner_text text outer inner within = grind (arith, nat_tests, length-take, front_text (drop outer.start text), drop-drop inner.start outer.start text)

-- what stands in a span before an index in it
pub begin_text :
    (text : List ℕ) (outer : Span) (start : ℕ) → start ≤ length (span_text text outer) →
    take start (span_text text outer) ≡ take (outer.start + start - outer.start) (drop outer.start text)
begin_text text outer start within = grind (arith, common_steps, take-take, length-take)

-- a cut of the text in a span: its bytes, its end, and what stands before it
pub cut_place :
    (text : List ℕ) (outer : Span) (first stop : ℕ) → first ≤ stop → stop ≤ length (span_text text outer) →
    (span_text text (record { start = outer.start + first; len = stop - first }) ≡ slice_range (span_text text outer) first stop)
    × (outer.start + first + (stop - first) ≤ end_of outer)
    × (slice_range text outer.start (outer.start + first) ≡ take first (span_text text outer))
cut_place text outer first stop ordered within =
    let inner = inner_text text outer (record { start = first; len = stop - first }) in
    let before = begin_text text outer first in
    grind (arith, nat_tests, inner, before, length-take (outer.start + outer.len - outer.start) (drop outer.start text))

-- ---- where variants and singletons stand

pub extensions_spelled : (r : Record) (text : List ℕ) → IsWellFormed r → text ≡ extensions_part r → SpellsExtensions r.extensions text
extensions_spelled r text well is = record { members = well.extensions; joined = sym is }

-- ---- the bytes of members, each with the hyphen before it

abbrev pub width : List ℕ → ℕ
width text = length (45 ∷ text)

-- so many bytes after an end and a hyphen
abbrev pub after : ℕ → ℕ → Span
after end len = record { start = end + 1; len = len }

-- texts that follow an end, one after another
abbrev pub spans_after : (List ℕ → ℕ) → ℕ → List (List ℕ) → List Span
spans_after size end texts = scan (λ end text. end + 1 + length text) (λ end text. after end (size text)) end texts

pub spans_after-at :
    (size : List ℕ → ℕ) (end : ℕ) (texts : List (List ℕ)) (k : ℕ) →
    slice_get (spans_after size end texts) k ≡ option_map (λ text. after (end + length (hyphenated (take k texts))) (size text)) (slice_get texts k)
spans_after-at size end [] k = refl
spans_after-at size end (x ∷ xs) zero = let start : end ≡ end + 0 = omega arith in ap (λ n. Some (after n (size x))) start
spans_after-at size end (x ∷ xs) (suc k) = grind (arith, common_steps, spans_after-at size (end + 1 + length x) xs k, hyphenated, length-append)

-- the variants follow the end of the region, up to their own
pub length-variants : (r : Record) (vs : List (List ℕ)) → length (join (to_region r ++ vs)) ≡ (ends_of r).region + length (hyphenated vs)
length-variants r vs = length-join-append r.primary (drop 1 (to_region r)) vs

pub variants_end : (r : Record) → (ends_of r).region + sum_by width r.variants ≡ (ends_of r).variants
variants_end r = grind (arith, nat_tests, length-flat_map, length-variants r r.variants, append_assoc)

-- the singletons follow the end of the variants, up to that of the extensions
hyphenated-spellings : (es : List Extension) → hyphenated (flat_map extension_flat es) ≡ hyphenated (map extension_spelling es)
hyphenated-spellings [] = refl
hyphenated-spellings (e ∷ es) = grind (arith, common_steps, hyphenated-append, join-hyphenated, hyphenated-spellings es)

pub length-extensions :
    (r : Record) (es : List Extension) →
    length (join (to_variants r ++ flat_map extension_flat es)) ≡ (ends_of r).variants + length (hyphenated (map extension_spelling es))
length-extensions r es = grind (arith, nat_tests, length-join-append r.primary (drop 1 (to_variants r)) (flat_map extension_flat es), hyphenated-spellings es)

pub extensions_end : (r : Record) → (ends_of r).variants + sum_by width (map extension_spelling r.extensions) ≡ (ends_of r).extensions
extensions_end r = grind (arith, nat_tests, length-flat_map, length-extensions r r.extensions, append_assoc)

-- a span that no member changes
pub option_map-same : {A B C : Type 0} (f : A → B) (z : C) (o : Option A) → option_map (λ _. z) (option_map f o) ≡ option_map (λ _. z) o
option_map-same f z o = grind (arith, nat_tests)

-- ---- a member is there where its span is, also where it is asked of what is made of each member

pub is_some-span :
    {A B : Type 0} (place : List A → A → Span) (f : A → B) (xs : List A) (index : Option ℕ) →
    is_some (member_span place xs index) ≡ is_some (option_and_then (slice_get (map f xs)) index)
is_some-span place f xs index = grind (arith, nat_tests, slice_get-map f xs)
