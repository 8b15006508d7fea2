-- A text is normal or private exactly where its segments may follow one another, and a normal text has one record.
use Rattle.langtag_scan.proofs.Prelude.{◌≡◌, inl, append-nil, ℕ, true, List, Some, sym, ap, ◌∙◌, ◌⊎◌, arith, rules, Bool, false, ◌&&◌, [], ◌∷◌, refl, AllByRecursion, and_parts, both_ways, and_from, join_with_byte-slice_split, common_steps}
use Rattle.langtag_scan.specs.Grammar.{Record, IsWellFormed, flat, spell, Stage, Start, classes_of, after_stage, AfterMark, is_one, segments, join, IsNormal, IsPrivate, is_private_subtag, is_primary, is_mark}
use Rattle.langtag_scan.proofs.StageLaws.{leads_to, after_class, next_step, runs}
use Rattle.langtag_scan.proofs.Decoding.{Read, Ready, FitParts, decode_sound, over_run, decode, decode_complete, flat_once, private_subtags}
use Rattle.langtag_scan.proofs.SubtagFacts.{IsSubtag, of_primary, of_extended, of_script, of_region, of_variant, of_extension_subtag, of_private_subtag, of_one, of_mark, singleton_alphanumeric, mark_alphanumeric}
use Rattle.langtag_scan.proofs.SubtagLists.{segments-joined, each_subtag}

-- a subtag of a class has one to eight letters and digits
of_class : (after : Stage) (s : List ℕ) → leads_to after (classes_of s) ≡ true → IsSubtag s
of_class after s h =
    search (rules, of_primary, and_parts, of_extended, of_script, of_region, of_variant, of_extension_subtag, of_mark, of_private_subtag, of_one, singleton_alphanumeric)

-- and so has one that may stand somewhere
pub after_subtag : (stage : Stage) (s : List ℕ) (after : Stage) → after_stage stage s ≡ Some after → IsSubtag s
after_subtag stage s after e = of_class after s (after_class stage after s e)

pub flat_subtags : (r : Record) → IsWellFormed r → AllByRecursion IsSubtag (flat r)
flat_subtags r fits =
    over_run (λ stage ss. AllByRecursion IsSubtag ss) (λ stage ends. tt)
    (λ stage after s ss next others. (of_class after s (next_step stage after s next).1, others))
    (flat r) Start (decode_complete r fits).run

pub spelled_segments : (r : Record) → IsWellFormed r → segments (spell r) ≡ flat r
spelled_segments r fits = segments-joined r.primary _ (flat_subtags r fits)

-- two well-formed records with one spelling are the same
pub spelled_once : (r q : Record) → IsWellFormed r → IsWellFormed q → spell r ≡ spell q → r ≡ q
spelled_once r q fits fit e = flat_once r q fits fit (sym (spelled_segments r fits) ∙ ap segments e ∙ spelled_segments q fit)

well_formed : (b : Read) → Ready Start b → FitParts b.parts → IsWellFormed b.parts
well_formed b m k = grind (arith, common_steps)

-- a text is normal where its segments may follow one another
pub normal_from_runs : (t : List ℕ) → runs Start (segments t) ≡ true → IsNormal t
unfolding IsNormal
normal_from_runs t run = grind (arith, common_steps, decode_sound (segments t) Start run, append-nil, well_formed, join_with_byte-slice_split 45 t)

-- and only there
pub runs_from_normal : (t : List ℕ) → IsNormal t → runs Start (segments t) ≡ true
unfolding IsNormal
runs_from_normal t n = grind (arith, common_steps, spelled_segments n.0 n.1.0, decode_complete n.0 n.1.0)

-- so a text is normal or not
pub normal_or_not : (t : List ℕ) → IsNormal t ⊎ (IsNormal t → ⊥)
normal_or_not t = grind (arith, common_steps, normal_from_runs t, both_ways, runs_from_normal t)

-- ---- a private text is a mark, a hyphen, and subtags over which the stages run from after a mark; no other text is

-- whether the subtags are a mark and what may follow it
abbrev pub runs_private : List (List ℕ) → Bool
runs_private [] = false
runs_private (s ∷ ss) = is_one is_mark s && runs AfterMark ss

-- the segments of a private text
pub runs_from_private : (t : List ℕ) → IsPrivate t → runs_private (segments t) ≡ true
unfolding IsPrivate
runs_from_private t (p, fits, spells) =
    let mark = of_one p.mark (mark_alphanumeric p.mark fits.mark) in
    let split = segments-joined (p.mark ∷ []) p.subtags (mark, each_subtag is_private_subtag of_private_subtag p.subtags fits.subtags) in
    ap (λ u. runs_private (segments u)) (sym spells) ∙ ap runs_private split
    ∙ and_from (is_mark p.mark) (runs AfterMark p.subtags) fits.mark (private_subtags AfterMark p.subtags refl (inl fits.some) fits.subtags).run

-- what such subtags spell is private
private_from_subtags : (t : List ℕ) (ss : List (List ℕ)) → join ss ≡ t → runs_private ss ≡ true → IsPrivate t
unfolding IsPrivate
private_from_subtags t ((m ∷ []) ∷ ss) e h =
    let k = and_parts (is_mark m) (runs AfterMark ss) h in
    let sound = decode_sound ss AfterMark k.1 in
    let after : (decode AfterMark ss).after ≡ ss = simp append-nil at sound.spells in
    (record { mark = m; subtags = ss }, record { mark = k.0; some = rw (← after) sound.ready.1; subtags = rw (← after) sound.ready.0 }, e)
private_from_subtags t _ e h = absurd cc

-- and only a private text has such segments
pub private_from_runs : (t : List ℕ) → runs_private (segments t) ≡ true → IsPrivate t
private_from_runs t h = private_from_subtags t (segments t) (join_with_byte-slice_split 45 t) h

pub one_no_primary : (m : ℕ) → is_primary (m ∷ []) ≡ false
unfolding is_primary
one_no_primary m = refl
