-- A line of parents ends: a parent has a lower rank than the fields, or it is one of a few that CLDR names, whose lines are known.
use Rattle.langtag_scan.proofs.Prelude.{◌≡◌, ℕ, zero, suc, ◌<◌, ◌≤◌, ◌⊎◌, inl, inr, true, false, Bool, cond, List, [], ◌∷◌, ◌++◌, codes, Option, None, Some, refl, sym, ap, ◌∙◌, subst, arith, ◌&&◌, ◌||◌, option_map, list_all, list_any, option_map_or, AllByRecursion, append_assoc, append-nil, bytes_eq, bytes_decides, and_parts, nat_tests}
use Rattle.langtag_scan.specs.Grammar.{Alike, Record, fold_byte}
use Rattle.langtag_text.specs.Fields.{Fields}
use Rattle.langtag_cldr.proofs.AddedTwice.{either_way, found_row, some_value}
use Rattle.langtag_cldr.specs.Definitions.{language_rows, likely_for, likely_subtags, other_rows, without_region}
use Rattle.langtag_parent.specs.Chain.{above, bases_left, chain_of, endings, forms, given_form, hyphenated, line, rest_of, with_each}
use Rattle.langtag_parent.specs.Parent.{fields_of, is_empty, named, other_script, parent_in_script, parent_of, parent_of_region, short, stated_or, usual_parent, with_script}
use Rattle.langtag_parent.specs.ParentLaws.{EndsWithin}
use Rattle.langtag_parent.specs.Base.{base_fields}
use Rattle.langtag_parent.specs.declared.base.Base.{Base}
use Rattle.langtag_parent.specs.ParentLocales.{parent_locales}

-- ---- the parents that CLDR names

abbrev of_three : List ℕ → List ℕ → List ℕ → Fields
of_three language script region = record { language = language; script = script; region = region }

unfoldable known : List Fields
known =
    of_three (codes "en") [] (codes "001") ∷ of_three (codes "en") [] (codes "150") ∷ of_three (codes "en") [] (codes "IN") ∷ of_three (codes "es") [] (codes "419")
    ∷ of_three (codes "fr") [] (codes "HT") ∷ of_three (codes "no") [] [] ∷ of_three (codes "pt") [] (codes "PT") ∷ of_three (codes "zh") (codes "Hant") (codes "HK") ∷ []

abbrev same : Fields → Fields → Bool
same a b = bytes_eq a.language b.language && (bytes_eq a.script b.script && bytes_eq a.region b.region)

same-is : (a b : Fields) → same a b ≡ true → a ≡ b
same-is a b is = grind (arith, and_parts, bytes_decides)

known_case : (P : Fields → Type 0) (ks : List Fields) (g : Fields) → list_any (same g) ks ≡ true → AllByRecursion P ks → P g
known_case P [] g is all = absurd cc
known_case P (k ∷ ks) g is all = either_way (same g k) (λ alike. subst P (sym (same-is g k alike)) all.0) (λ other. known_case P ks g (grind arith) all.1)

-- the parents that CLDR names for a language alone
unfoldable near : List Fields
near = of_three (codes "fr") [] (codes "HT") ∷ of_three (codes "no") [] [] ∷ []

-- 2 for fields with a region, 1 for those with a script alone, and 0 without both
abbrev rank : Fields → ℕ
rank f = cond (is_empty f.region) (cond (is_empty f.script) 0 1) 2

abbrev around : Fields → List Fields
around f = cond (is_empty f.region && is_empty f.script) near known

-- a parent that a row names for fields, if it names one
abbrev is_named : Fields → Fields → Bool
is_named from to = is_empty to.language || list_any (same to) (around from)

all_named : list_all (λ row. is_named row.from row.to) parent_locales ≡ true
unfolding known near parent_locales fold_byte
all_named = refl

ends_at : (n : ℕ) (f : Fields) → line (suc n) f ≡ line n f → EndsWithin n f
ends_at zero f same = absurd cc
ends_at (suc n) f same = λ parent is.
    let rest : option_map_or (line (suc n)) (parent_of (short f)) [] ≡ option_map_or (line n) (parent_of (short f)) [] = cc in
    ends_at n parent (sym (ap (λ o. option_map_or (line (suc n)) o []) is) ∙ rest ∙ ap (λ o. option_map_or (line n) o []) is)

ends_more : (n : ℕ) (f : Fields) → EndsWithin n f → EndsWithin (suc n) f
ends_more zero f ends = absurd ends
ends_more (suc n) f ends = λ parent is. ends_more n parent (ends parent is)

known_lines : AllByRecursion (λ g. line 4 g ≡ line 3 g) known
unfolding known parent_locales parent_of likely_subtags language_rows other_rows fold_byte
known_lines = (refl, (refl, (refl, (refl, (refl, (refl, (refl, (refl, tt))))))))

near_lines : AllByRecursion (λ g. line 3 g ≡ line 2 g) near
unfolding near parent_locales parent_of likely_subtags language_rows other_rows fold_byte
near_lines = (refl, (refl, tt))

-- ---- a parent is one of these, or has a lower rank

short_rank : (f : Fields) → rank (short f) ≤ rank f
short_rank f = grind arith

alike_empty : (a b : List ℕ) → Alike a b → is_empty a ≡ is_empty b
alike_empty [] [] same = refl
alike_empty [] (c ∷ b) same = absurd cc
alike_empty (c ∷ a) [] same = absurd cc
alike_empty (c ∷ a) (d ∷ b) same = refl

stated_named : (f to : Fields) → likely_for parent_locales f ≡ Some to → is_named f to ≡ true
stated_named f to there =
    let row = found_row parent_locales (λ row. is_named row.from row.to) f to all_named there in
    let alike = row.from_is in
    let near_too : around row.row.from ≡ around f = rw (alike_empty row.row.from.region f.region alike.region, alike_empty row.row.from.script f.script alike.script) refl in
    subst (λ g. (is_empty g.language || list_any (same g) (around f)) ≡ true) row.to_is (rw near_too at row.holds_of_it)

abbrev IsNext : Fields → Fields → Type 0
IsNext f g = (list_any (same g) (around f) ≡ true) ⊎ (rank g < rank f)

stated_way : (f g : Fields) (other : Option Fields) → stated_or f other ≡ Some g → (list_any (same g) (around f) ≡ true) ⊎ (other ≡ Some g)
stated_way f g other is = grind (arith, stated_named f)

lower : (f h g : Fields) → is_empty f.region ≡ false → Some (without_region h) ≡ Some g → rank g < rank f
lower f h g some is = grind arith

region_way : (f g : Fields) → is_empty f.region ≡ false → parent_of_region f ≡ Some g → IsNext f g
region_way f g some is = by_script (other_script f) is
  where
    by_script : (o : Option (List ℕ)) → option_map_or (λ s. parent_in_script (with_script f s)) o (Some (without_region f)) ≡ Some g → IsNext f g
    by_script None is = inr (lower f f g some is)
    by_script (Some s) is = elim (stated_way (with_script f s) g (Some (without_region (with_script f s))) is) [
      | inl it ↦ inl (rw some (rw some at it))
      | inr cut ↦ inr (lower f (with_script f s) g some cut)
    ]

usual_way : (f g : Fields) → usual_parent f ≡ Some g → IsNext f g
usual_way f g is = grind (arith, region_way f g)

way : (f g : Fields) → parent_of f ≡ Some g → IsNext f g
unfolding parent_of
way f g is = grind (arith, stated_way f g (usual_parent f), usual_way f g)

-- ---- so the line ends

near_ends : (g : Fields) → list_any (same g) near ≡ true → EndsWithin 2 g
near_ends g is = ends_at 2 g (known_case (λ g. line 3 g ≡ line 2 g) near g is near_lines)

named_ends : (n : ℕ) (f g : Fields) → list_any (same g) (around f) ≡ true → EndsWithin (suc (suc (suc n))) g
named_ends zero f g is = either_way (is_empty f.region && is_empty f.script)
    (λ alone. ends_more 2 g (near_ends g (rw alone at is)))
    (λ other. ends_at 3 g (known_case (λ g. line 4 g ≡ line 3 g) known g (rw other at is) known_lines))
named_ends (suc n) f g is = ends_more (suc (suc (suc n))) g (named_ends n f g is)

ends : (n : ℕ) (f : Fields) → rank f ≤ n → EndsWithin (suc (suc (suc n))) f
ends zero f small = λ g is. elim (way (short f) g is) [
  | inl it ↦
      let alone : around (short f) ≡ near = grind (arith, short_rank f, small) in
      near_ends g (rw alone at it)
  | inr less ↦ absurd (omega (arith, less, short_rank f, small))
]
ends (suc n) f small = λ g is. elim (way (short f) g is) [
  | inl it ↦ named_ends n (short f) g it
  | inr less ↦ ends n g (omega (arith, less, short_rank f, small))
]

pub line_ends : (f : Fields) → EndsWithin 5 f
line_ends f = ends 2 f (grind arith)

whole_in : (n : ℕ) (f : Fields) → EndsWithin n f → line (suc n) f ≡ line n f
whole_in zero f ends = absurd ends
whole_in (suc n) f ends =
    ap (λ rest. f ∷ rest) (some_value (parent_of (short f)) (λ none. rw none refl) (λ g is. rw is (whole_in n g (ends g is))))

-- no line is longer than five
whole_line : (f : Fields) → line 6 f ≡ line 5 f
whole_line f = whole_in 5 f (line_ends f)

-- ---- what an iterator has left

pub above_step : (tag : Fields) (v : List ℕ) (p : Option Fields) → above tag v p ≡ option_map_or (λ g. with_each (endings v v) (named tag g) ++ above tag v (parent_of (short g))) p []
above_step tag v None = refl
above_step tag v (Some g) = grind (arith, nat_tests, whole_line)

pub step_some :
    (tag : Fields) (base : Base) (v rest t : List ℕ) → endings v rest ≡ rest ∷ endings v t →
    with_each (endings v rest) (named tag (base_fields base)) ++ above tag v (parent_of (short (base_fields base)))
    ≡ forms (named tag (base_fields base)) rest ++ bases_left tag (Some base) t v
step_some tag base v rest t is = grind (arith, append_assoc)

fields_left :
    (tag : Fields) (v : List ℕ) (o : Option Base) (p : Option Fields) → option_map base_fields o ≡ p →
    option_map_or (λ g. with_each (endings v v) (named tag g) ++ above tag v (parent_of (short g))) p [] ≡ bases_left tag o v v
fields_left tag v o p is = grind arith

pub step_none :
    (tag : Fields) (base : Base) (v rest : List ℕ) (o : Option Base) → endings v rest ≡ rest ∷ [] → option_map base_fields o ≡ parent_of (short (base_fields base)) →
    with_each (endings v rest) (named tag (base_fields base)) ++ above tag v (parent_of (short (base_fields base)))
    ≡ forms (named tag (base_fields base)) rest ++ bases_left tag o v v
step_none tag base v rest o is parent = grind (arith, append-nil, above_step, fields_left)

-- ---- the chain of a record

-- a short form has no likely script, so it is its own short form
short_twice : (f : Fields) → short (short f) ≡ short f
short_twice f = grind arith

pub chain_is :
    (r : Record) (given : List (List ℕ)) (tag f : Fields) (v rest : List ℕ) → given ≡ given_form tag rest → tag ≡ fields_of r → v ≡ hyphenated r.variants → rest ≡ rest_of r →
    f ≡ short (fields_of r) → given ++ (with_each (endings v rest) (named tag f) ++ above tag v (parent_of (short f))) ≡ chain_of r
chain_is r given tag f v rest given_is tag_is v_is rest_is f_is = cc (short_twice (fields_of r))
