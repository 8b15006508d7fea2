-- The answer to a line, by its kind, as the code puts it together.
use Rattle.langtag_scan.proofs.Prelude.{arith, ◌≡◌, ◌∙◌, ℕ, Some, List, [], ◌++◌, map, drop, slice_get, refl, ap, append_assoc, append-nil, subst, codes, get_or_append_left, get_or_from_slice_get, slice_get_within}
use Rattle.langtag_scan.specs.Grammar.{grandfathered_tags, irregular_texts, language_part, variants_part, extensions_part, private_use_part, Record, Spells, IsPrivate, IsIrregularAt}
use Rattle.langtag.specs.Registered.{index_of, text_of}
use Rattle.langtag.specs.declared.grandfathered.GrandfatheredLangTag.{GrandfatheredLangTag}
use Rattle.langtag_show.specs.ShowAnswer.{part_or_nothing, has_repeats, yes_or_no, IsShowAnswer, normal, private_use, irregular}

-- the pieces of an answer to a normal tag are joined from the right
pub answer_normal :
    (line : List ℕ) (r : Record) (l s g v e p q : List ℕ) → Spells r line → l ≡ language_part r → s ≡ part_or_nothing r.script →
    g ≡ part_or_nothing r.region
    → v ≡ variants_part r → e ≡ extensions_part r → p ≡ part_or_nothing (private_use_part r) → q ≡ yes_or_no (has_repeats r)
    → IsShowAnswer line (codes "normal language=" ++ (l ++ (codes " script=" ++ (s ++ (codes " region=" ++ (g ++ (codes " variants=" ++ (v ++ (codes " extensions=" ++ (e ++ (codes " private=" ++ (p ++ (codes " repeats=" ++ (q ++ []))))))))))))))
answer_normal line r l s g v e p q is language script region variants extensions private repeats =
    normal r is (rw (language, script, region, variants, extensions, private, repeats) (simp (append_assoc, append-nil)))

pub answer_private : (line text : List ℕ) → IsPrivate text → text ≡ line → IsShowAnswer line (codes "private " ++ (text ++ []))
answer_private line text is same = private_use (subst IsPrivate same is) (ap (λ t. codes "private " ++ t) (append-nil text ∙ same))

-- the irregular texts stand first among the registered ones
irregular_first : map (λ entry. entry.text) grandfathered_tags ≡ irregular_texts ++ map (λ entry. entry.text) (drop 17 grandfathered_tags)
unfolding grandfathered_tags irregular_texts
irregular_first = refl

-- an irregular text at the index of a variant has the variant's spelling
spelling_at : (tag : GrandfatheredLangTag) (name : List ℕ) → slice_get irregular_texts (index_of tag) ≡ Some name → text_of tag ≡ name
spelling_at tag name at = grind (arith, irregular_first, get_or_append_left, get_or_from_slice_get, slice_get_within)

pub answer_irregular :
    (line text : List ℕ) (tag : GrandfatheredLangTag) → IsIrregularAt (index_of tag) line → text ≡ text_of tag →
    IsShowAnswer line (codes "irregular " ++ (text ++ []))
unfolding IsIrregularAt
answer_irregular line text tag (name, at, alike) is =
    irregular (index_of tag) name (name, at, alike) at (ap (λ t. codes "irregular " ++ t) (append-nil text ∙ is ∙ spelling_at tag name at))
