-- The stages of a normal tag: how they run over its subtags, which may come after another one, and which subtag leads there.
use Rattle.langtag_scan.proofs.Prelude.{option_map_or, ◌≡◌, ℕ, ◌+◌, ◌≤◌, Bool, true, false, cond, eqb, ltb, leb, ◌&&◌, List, Some, arith, [], length, and_parts, nat_tests, common_steps, ◌∷◌}
use Rattle.langtag_scan.specs.Grammar.{end_at, index_after, Stage, next_stage, may_end, Start, Language, Extended, AfterScript, AfterRegion, AfterVariant, AfterSingleton, InExtension, AfterMark, InPrivate, AfterFirstMark, InPrivateTag, Classes, classes_of, after_by, after_stage}
use Rattle.langtag_scan.specs.Stage.{next_by}
use Rattle.langtag_scan.specs.declared.ends.Ends.{Ends}

-- whether these subtags may follow in a normal tag
unfoldable pub runs : Stage → List (List ℕ) → Bool
runs stage [] = may_end stage
runs stage (s ∷ ss) = option_map_or (λ after. runs after ss) (next_stage stage s) false

-- the ends after all these subtags of a normal tag
unfoldable pub ends_after : Stage → Ends → List (List ℕ) → Ends
ends_after stage e [] = e
ends_after stage e (s ∷ ss) = option_map_or (λ after. ends_after after (end_at after (index_after stage e s) e) ss) (next_stage stage s) e

-- ---- which stage may come after another one in a normal tag, and which subtag leads there

-- the class of the subtag after which a stage comes
abbrev pub leads_to : Stage → Classes → Bool
leads_to Start c = false
leads_to (Language taken) c = c.primary && eqb taken (cond c.short 0 3)
leads_to (Extended taken) c = c.extended
leads_to AfterScript c = c.script
leads_to AfterRegion c = c.region
leads_to AfterVariant c = c.variant
leads_to AfterSingleton c = c.singleton
leads_to InExtension c = c.extension_subtag
leads_to AfterMark c = c.mark
leads_to InPrivate c = c.private_subtag
leads_to AfterFirstMark c = c.mark
leads_to InPrivateTag c = c.private_subtag

-- the part that this subtag stands in, by the order of their ends: 0 the language, .. 5 the private use part
abbrev pub place : Stage → ℕ
place Start = 0
place (Language taken) = 0
place (Extended taken) = 0
place AfterScript = 1
place AfterRegion = 2
place AfterVariant = 3
place AfterSingleton = 4
place InExtension = 4
place _ = 5

-- the first part that the next subtag may open, and 6 where it may open none
abbrev pub next_part : Stage → ℕ
next_part (Language taken) = 1
next_part (Extended taken) = 1
next_part AfterScript = 2
next_part AfterRegion = 3
next_part AfterVariant = 3
next_part InExtension = 4
next_part _ = 6

-- the subtag opens a part, or is a variant, and the part is this one or a later one
abbrev pub opens_from : ℕ → Stage → Bool
opens_from k AfterScript = leb k 1
opens_from k AfterRegion = leb k 2
opens_from k AfterVariant = leb k 3
opens_from k AfterSingleton = leb k 4
opens_from k AfterMark = leb k 5
opens_from k _ = false

abbrev pub is_next_extended : ℕ → ℕ → Bool
is_next_extended taken more = eqb more (taken + 1) && ltb taken 3

-- whether the second stage may come after the first in a normal tag
abbrev pub may_follow : Stage → Stage → Bool
may_follow Start (Language taken) = true
may_follow (Language taken) (Extended more) = is_next_extended taken more
may_follow (Extended taken) (Extended more) = is_next_extended taken more
may_follow AfterSingleton InExtension = true
may_follow InExtension InExtension = true
may_follow AfterMark InPrivate = true
may_follow InPrivate InPrivate = true
may_follow stage after = opens_from (next_part stage) after

-- the parts do not go back
pub places : (stage after : Stage) → may_follow stage after ≡ true → place stage ≤ place after
places _ _ h = grind (arith, nat_tests)

-- a tag may end where a part may follow
pub part_ends : (stage : Stage) → next_part stage ≤ 5 → may_end stage ≡ true
part_ends _ h = grind (arith, nat_tests)

-- that part, or a later one
pub part_follows : (k : ℕ) (stage after : Stage) → next_part stage ≤ k → opens_from k after ≡ true → may_follow stage after ≡ true
part_follows k _ _ h h' = grind (arith, nat_tests)

after_led : (stage : Stage) (c : Classes) → option_map_or (λ after. leads_to after c) (after_by stage c) true ≡ true
after_led _ c = grind (arith, nat_tests)

next_steps : (stage : Stage) (c : Classes) → option_map_or (λ after. may_follow stage after && leads_to after c) (next_by stage c) true ≡ true
next_steps _ c = grind (arith, nat_tests)

-- the subtag is of the class of the stage after it
pub after_class : (stage after : Stage) (s : List ℕ) → after_stage stage s ≡ Some after → leads_to after (classes_of s) ≡ true
after_class stage after s e = rw e at (after_led stage (classes_of s))

-- and that stage may follow
pub next_step :
    (stage after : Stage) (s : List ℕ) → next_stage stage s ≡ Some after →
    (may_follow stage after ≡ true) × (leads_to after (classes_of s) ≡ true)
next_step stage after s e = and_parts (may_follow stage after) _ (rw e at (next_steps stage (classes_of s)))

-- ---- which stages follow

-- no normal tag has begun
unfoldable pub is_outside : Stage → Bool
is_outside Start = true
is_outside AfterFirstMark = true
is_outside InPrivateTag = true
is_outside _ = false

pub next_inside : (stage after : Stage) (s : List ℕ) → next_stage stage s ≡ Some after → is_outside after ≡ false
unfolding is_outside
next_inside stage after s e = grind (arith, common_steps, next_step)

-- and it goes on as a normal tag does
pub after-inside : (stage : Stage) (s : List ℕ) → is_outside stage ≡ false → after_stage stage s ≡ next_stage stage s
unfolding is_outside
after-inside stage s inside = grind (arith, common_steps)

-- no stage after a subtag is the first one
pub after_not_start : (stage after : Stage) (s : List ℕ) → after_stage stage s ≡ Some after → after ≡ Start → ⊥
after_not_start stage after s e first = grind (arith, common_steps, after_class stage after s e)

-- ---- where a subtag ends

pub index_after-length : (stage : Stage) (e : Ends) (s : List ℕ) → index_after stage e s ≡ index_after stage e [] + length s
index_after-length stage e s = grind (arith, common_steps)
