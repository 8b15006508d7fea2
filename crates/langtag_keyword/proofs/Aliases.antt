-- The tables have what the lists say, and the case of a text changes nothing of its alias.
use Rattle.std.specs.Option.{option_or}
use Rattle.std.proofs.lemmas.Bool.Decides.{nat_tests}
use Rattle.std.proofs.Common.{arith, Bor}
use Rattle.langtag_keyword.proofs.Common.{common_steps, ◌≡◌, ℕ, List, [], ◌∷◌, ◌++◌, ◌≤◌, ◌-◌, true, None, find, option_map, ap, drop, flat_map, get_or, length, map, take, take_all, refl, bytes_eq, Alike, are_alike, fold_text, Alias, TypeAlias, alias_for, type_alias_for, Option, Bool, cond}
use Rattle.langtag_keyword.specs.Aliases.{subdivision_aliases, transform_type_aliases, unicode_type_aliases}
use Rattle.langtag_keyword.specs.declared.alias_tables.TheConstants.{SUBDIVISION_ALIASES, TRANSFORM_TYPE_ALIASES, UNICODE_TYPE_ALIASES}

pub alias_for-alike : (aliases : List Alias) (a b : List ℕ) → Alike a b → alias_for aliases a ≡ alias_for aliases b
alias_for-alike aliases a b alike = ap (λ t. option_map (λ (alias : Alias). alias.new) (find (λ (alias : Alias). bytes_eq (fold_text alias.old) t) aliases)) alike

pub type_alias_for-alike : (aliases : List TypeAlias) (k l a b : List ℕ) → Alike k l → Alike a b → type_alias_for aliases k a ≡ type_alias_for aliases l b
type_alias_for-alike aliases k l a b keys types = grind (arith, nat_tests)

-- ---- aliases in groups, one for each key

-- an old text and its replacement
abbrev pub Pair : Type 0
Pair = Bor (List ℕ) × Bor (List ℕ)

-- the types of one key, and then others
key-first :
    (rows : List Pair) (others : List TypeAlias) (key of text : List ℕ) →
    type_alias_for (map (λ row. record { key = key; old = row.0.now; new = row.1.now }) rows ++ others) of text
    ≡ option_or (cond (are_alike key of) (alias_for (map (λ row. record { old = row.0.now; new = row.1.now }) rows) text) None) (type_alias_for others of text)
key-first [] others key of text = grind (arith, common_steps)
key-first (row ∷ rows) others key of text = grind (arith, common_steps, key-first rows others key of text)

-- a key, and its types that are replaced
abbrev pub Group : Type 0
Group = Bor (List ℕ) × Bor (List Pair)

abbrev pub in_groups : List Group → List TypeAlias
in_groups groups = flat_map (λ group. map (λ row. record { key = group.0.now; old = row.0.now; new = row.1.now }) group.1.now) groups

abbrev pub after_first : List Group → List Group
after_first groups = take (length groups - 1) (drop 1 groups)

-- what is found of the first key, or else among the others
pub group-first :
    (groups : List Group) (d : Group) (of text : List ℕ) (is : Bool) (found : Option (List ℕ)) → 1 ≤ length groups → are_alike (get_or groups 0 d).0.now of ≡ is →
    (is ≡ true → alias_for (map (λ row. record { old = row.0.now; new = row.1.now }) (get_or groups 0 d).1.now) text ≡ found) →
    option_or (cond is found None) (type_alias_for (in_groups (after_first groups)) of text) ≡ type_alias_for (in_groups groups) of text
group-first [] d of text is found long alike same = absurd (omega (arith, long))
group-first (group ∷ groups) d of text is found long alike same =
    let others = ap in_groups (take_all (length (group ∷ groups) - 1) groups (omega arith)) in
    grind (arith, common_steps, others, key-first group.1.now (in_groups groups) group.0.now of text, same)

-- ---- the tables

pub unicode_rows : flat_map (λ group. map (λ row. record { key = group.0.now; old = row.0.now; new = row.1.now }) group.1.now) UNICODE_TYPE_ALIASES ≡ unicode_type_aliases
unfolding unicode_type_aliases
unicode_rows = refl

pub transform_rows : flat_map (λ group. map (λ row. record { key = group.0.now; old = row.0.now; new = row.1.now }) group.1.now) TRANSFORM_TYPE_ALIASES ≡ transform_type_aliases
unfolding transform_type_aliases
transform_rows = refl

pub subdivision_rows : map (λ row. record { old = row.0.now; new = row.1.now }) SUBDIVISION_ALIASES ≡ subdivision_aliases
unfolding subdivision_aliases
subdivision_rows = refl
