-- A join is its first subtag and the others, each after a hyphen. So lists of subtags that follow one another do so in
-- the text, too, and it can be cut between them.
use Rattle.langtag_scan.proofs.Prelude.{◌≡◌, ℕ, ◌+◌, List, [], ◌∷◌, ◌++◌, length, take, drop, Option, None, Some, unwrap_or, refl, sym, ap, ◌∙◌, arith, append_assoc, append-nil, option_map, flat_map, replace_range, take_at, drop_at, common_steps, flat_map-append, eq-eqb, ne_eqb, length-append, nat_tests}
use Rattle.langtag_scan.specs.Grammar.{PrivateUse, one_flat, private_use_flat, private_part_flat, join, text_between}
use Rattle.langtag_scan.specs.Parts.{present}

-- ---- joins

-- each of these subtags after a hyphen
abbrev pub hyphenated : List (List ℕ) → List ℕ
hyphenated subtags = flat_map (λ s. 45 ∷ s) subtags

pub join-hyphenated : (x : List ℕ) (xs : List (List ℕ)) → join (x ∷ xs) ≡ x ++ hyphenated xs
join-hyphenated x [] = sym (append-nil x)
join-hyphenated x (y ∷ ys) = ap (λ t. x ++ 45 ∷ t) (join-hyphenated y ys)

pub hyphenated-append : (xs ys : List (List ℕ)) → hyphenated (xs ++ ys) ≡ hyphenated xs ++ hyphenated ys
hyphenated-append xs ys = flat_map-append (λ s. 45 ∷ s) xs ys

-- a list that follows another
pub join-append : (x : List ℕ) (xs ys : List (List ℕ)) → join (x ∷ (xs ++ ys)) ≡ join (x ∷ xs) ++ hyphenated ys
join-append x xs ys = simp (join-hyphenated, hyphenated-append, append_assoc)

-- the join of some subtags, where there are any, in their place
pub hyphenated-present : (ss : List (List ℕ)) → hyphenated (present ss) ≡ hyphenated ss
hyphenated-present ss = grind (arith, common_steps, append-nil, join-hyphenated)

-- what stands before some subtags, these, and what stands after them
pub join-around : (x : List ℕ) (xs ys zs : List (List ℕ)) → join (x ∷ (xs ++ (ys ++ zs))) ≡ (join (x ∷ xs) ++ hyphenated ys) ++ hyphenated zs
join-around x xs ys zs = simp (join-hyphenated, hyphenated-append, append_assoc)

-- ---- the lengths of joins

pub length-hyphenated : (xs ys : List (List ℕ)) → length (hyphenated (xs ++ ys)) ≡ length (hyphenated xs) + length (hyphenated ys)
length-hyphenated xs ys = ap length (hyphenated-append xs ys) ∙ length-append (hyphenated xs) (hyphenated ys)

pub length-join : (x : List ℕ) (xs : List (List ℕ)) → length (join (x ∷ xs)) ≡ length x + length (hyphenated xs)
length-join x xs = ap length (join-hyphenated x xs) ∙ length-append x (hyphenated xs)

pub length-join-append : (x : List ℕ) (xs ys : List (List ℕ)) → length (join (x ∷ (xs ++ ys))) ≡ length (join (x ∷ xs)) + length (hyphenated ys)
length-join-append x xs ys = ap length (join-append x xs ys) ∙ length-append (join (x ∷ xs)) (hyphenated ys)

-- ---- a text that is cut in two

pub take-join : (x : List ℕ) (xs ys : List (List ℕ)) → take (length (join (x ∷ xs))) (join (x ∷ (xs ++ ys))) ≡ join (x ∷ xs)
take-join x xs ys = rw (join-append x xs ys) (take_at (join (x ∷ xs)) (hyphenated ys) (length (join (x ∷ xs))) refl)

pub drop-join : (x : List ℕ) (xs ys : List (List ℕ)) → drop (length (join (x ∷ xs))) (join (x ∷ (xs ++ ys))) ≡ hyphenated ys
drop-join x xs ys = rw (join-append x xs ys) (drop_at (join (x ∷ xs)) (hyphenated ys) (length (join (x ∷ xs))) refl)

-- to replace subtags, each after its hyphen, in the text is to replace them in the list
pub join-replaced :
    (x : List ℕ) (xs ys zs us : List (List ℕ)) →
    replace_range (join (x ∷ (xs ++ (ys ++ zs)))) (length (join (x ∷ xs))) (length (join (x ∷ (xs ++ ys)))) (hyphenated us) ≡ join (x ∷ (xs ++ (us ++ zs)))
join-replaced x xs ys zs us = grind (arith, nat_tests, append_assoc, drop-join x (xs ++ ys) zs, take-join x xs (ys ++ zs), join-around x xs us zs)

-- ---- what stands between two ends

-- the join of subtags, where there are any
abbrev pub joined : List (List ℕ) → Option (List ℕ)
joined [] = None
joined (subtag ∷ subtags) = Some (join (subtag ∷ subtags))

pub joined-one : (o : Option (List ℕ)) → joined (one_flat o) ≡ o
joined-one o = grind (arith, common_steps)

pub joined-private : (o : Option PrivateUse) → joined (private_part_flat o) ≡ option_map (λ p. join (private_use_flat p)) o
joined-private o = grind (arith, common_steps)

pub unwrap_or-joined : (ss : List (List ℕ)) → unwrap_or (joined ss) [] ≡ join ss
unwrap_or-joined ss = grind (arith, common_steps)

text_between-cut :
    (text prefix part rest : List ℕ) (end : ℕ) → text ≡ prefix ++ 45 ∷ (part ++ rest) → end ≡ length prefix + 1 + length part →
    text_between text (length prefix) end ≡ Some part
text_between-cut text prefix part rest end cut at =
    grind (arith, common_steps, ne_eqb (length prefix) end, drop_at (prefix ++ 45 ∷ []) (part ++ rest), append_assoc prefix (45 ∷ []))

-- the subtags between two prefixes of a list
pub text_between-join :
    (x : List ℕ) (xs ys zs : List (List ℕ)) →
    text_between (join (x ∷ (xs ++ (ys ++ zs)))) (length (join (x ∷ xs))) (length (join (x ∷ (xs ++ ys)))) ≡ joined ys
text_between-join x xs ys zs =
    grind (arith, common_steps, append-nil, eq-eqb, join-hyphenated, join-append, hyphenated-append, text_between-cut, length-join-append)

-- the same, however the prefix and the whole are grouped
pub text_between-lists :
    (x : List ℕ) (xs ys zs prefix whole : List (List ℕ)) → prefix ≡ x ∷ (xs ++ ys) → whole ≡ x ∷ (xs ++ (ys ++ zs)) →
    text_between (join whole) (length (join (x ∷ xs))) (length (join prefix)) ≡ joined ys
text_between-lists x xs ys zs prefix whole to_prefix to_whole = rw (to_prefix, to_whole) (text_between-join x xs ys zs)
