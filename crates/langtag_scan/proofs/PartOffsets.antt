-- Each part of a record stands between the end of the part before and its own end, and so do the ends that are kept subtag by subtag.
use Rattle.langtag_scan.proofs.Prelude.{◌≡◌, ℕ, List, [], ◌++◌, take, drop, arith, ◌∙◌, append_assoc, append-nil, ◌+◌, length, zero, suc, ◌≤◌, true, false, cond, leb, ◌∷◌, Some, refl, length-append, common_steps, nat_tests, flat_map}
use Rattle.langtag_scan.specs.Grammar.{to_region, to_variants, ends_of, Record, extension_flat, one_flat, private_part_flat, flat, spell, IsWellFormed, join, language_part, private_use_part, text_between, AreInOrder, all_at, end_at, index_after, Stage, Start, Language, next_stage, may_end}
use Rattle.langtag_scan.specs.Ends.{to_script, to_extensions}
use Rattle.langtag_scan.specs.Parts.{parts}
use Rattle.langtag_scan.specs.declared.ends.Ends.{Ends}
use Rattle.langtag_scan.proofs.Joins.{join-hyphenated, hyphenated-append, hyphenated-present, join-append, take-join, length-join, length-hyphenated, joined, joined-one, joined-private, text_between-join, text_between-lists, hyphenated}
use Rattle.langtag_scan.proofs.Decoding.{decode_complete, Read, whole, decode, decode-cons, over_run, add, blocks, by_part, by_part-put}
use Rattle.langtag_scan.proofs.Running.{ends_after-cons}
use Rattle.langtag_scan.proofs.StageLaws.{runs, ends_after, is_outside, next_inside, place, places, next_step}

-- the subtags from a part on
abbrev from_extensions : Record → List (List ℕ)
from_extensions r = flat_map extension_flat r.extensions ++ private_part_flat r.private_use

abbrev from_variants : Record → List (List ℕ)
from_variants r = r.variants ++ from_extensions r

abbrev from_region : Record → List (List ℕ)
from_region r = one_flat r.region ++ from_variants r

pub language_between : (r : Record) → take (ends_of r).language (spell r) ≡ language_part r
language_between r = take-join r.primary r.extended (one_flat r.script ++ from_region r)

pub script_between : (r : Record) → text_between (spell r) (ends_of r).language (ends_of r).script ≡ r.script
script_between r = text_between-join r.primary r.extended (one_flat r.script) (from_region r) ∙ joined-one r.script

pub region_between : (r : Record) → text_between (spell r) (ends_of r).script (ends_of r).region ≡ r.region
region_between r =
    text_between-lists r.primary (drop 1 (to_script r)) (one_flat r.region) (from_variants r) (to_region r) (flat r) (simp append_assoc) (simp append_assoc)
    ∙ joined-one r.region

pub variants_between : (r : Record) → text_between (spell r) (ends_of r).region (ends_of r).variants ≡ joined r.variants
variants_between r =
    text_between-lists r.primary (drop 1 (to_region r)) r.variants (from_extensions r) (to_variants r) (flat r) (simp append_assoc) (simp append_assoc)

pub extensions_between :
    (r : Record) →
    text_between (spell r) (ends_of r).variants (ends_of r).extensions ≡ joined (flat_map extension_flat r.extensions)
extensions_between r =
    text_between-lists r.primary (drop 1 (to_variants r)) (flat_map extension_flat r.extensions) (private_part_flat r.private_use) (to_extensions r) (flat r) (simp append_assoc) (simp append_assoc)

pub private_use_between : (r : Record) → text_between (spell r) (ends_of r).extensions (ends_of r).whole ≡ private_use_part r
private_use_between r =
    text_between-lists r.primary (drop 1 (to_extensions r)) (private_part_flat r.private_use) [] (flat r) (flat r) (simp append_assoc) (simp (append_assoc, append-nil))
    ∙ joined-private r.private_use

-- no part ends before the one that it follows
pub ends_in_order : (r : Record) → AreInOrder (ends_of r)
ends_in_order r = grind (arith, common_steps, length-join, length-hyphenated)

-- a text is as long as its first subtag and the others, each with a hyphen
pub length-spell :
    (r : Record) →
    length (spell r) ≡ length r.primary + length (hyphenated r.extended) + length (hyphenated (one_flat r.script)) + length (hyphenated (one_flat r.region))
    + length (hyphenated r.variants) + length (hyphenated (flat_map extension_flat r.extensions)) + length (hyphenated (private_part_flat r.private_use))
length-spell r = simp (length-join, length-hyphenated) (omega arith)

-- ---- the parts that are there, joined

-- the parts that are there, joined by hyphens, are the whole text
pub join-parts : (r : Record) → join (parts r) ≡ spell r
join-parts r = grind (arith, common_steps, join-hyphenated, hyphenated-append, hyphenated-present, join-append)

-- ---- when ends are equal

-- where each of their six offsets is
pub ends_equal :
    (d e : Ends) → d.language ≡ e.language → d.script ≡ e.script → d.region ≡ e.region → d.variants ≡ e.variants →
    d.extensions ≡ e.extensions → d.whole ≡ e.whole → d ≡ e
ends_equal d e language script region variants extensions whole = grind (arith, common_steps)

-- ---- the ends that are kept subtag by subtag are those of the record: each part ends where the part before it does, and
-- as many bytes later as its subtags have, each after a hyphen.

-- ---- the ends by the lengths of parts

-- the length of these subtags, each after a hyphen
abbrev weight : List (List ℕ) → ℕ
weight [] = 0
weight (s ∷ ss) = 1 + length s + weight ss

weight-hyphenated : (ss : List (List ℕ)) → weight ss ≡ length (hyphenated ss)
weight-hyphenated [] = refl
weight-hyphenated (s ∷ ss) = omega (arith, length-append s (hyphenated ss), weight-hyphenated ss)

-- that of so many of these parts
abbrev weigh : ℕ → List (List (List ℕ)) → ℕ
weigh zero bs = 0
weigh (suc n) [] = 0
weigh (suc n) (b ∷ bs) = weight b + weigh n bs

-- each end is as many bytes later as the parts up to it have
abbrev AreLater : Ends → Ends → List (List (List ℕ)) → Type 0
AreLater d e bs =
    (d.language ≡ e.language + weigh 1 bs) × (d.script ≡ e.script + weigh 2 bs) × (d.region ≡ e.region + weigh 3 bs)
    × (d.variants ≡ e.variants + weigh 4 bs) × (d.extensions ≡ e.extensions + weigh 5 bs) × (d.whole ≡ e.whole + weigh 6 bs)

-- the ends from a part on are that of the text
abbrev AreOpen : ℕ → Ends → Type 0
AreOpen k e =
    (k ≤ 0 → e.language ≡ e.whole) × (k ≤ 1 → e.script ≡ e.whole) × (k ≤ 2 → e.region ≡ e.whole)
    × (k ≤ 3 → e.variants ≡ e.whole) × (k ≤ 4 → e.extensions ≡ e.whole)

AreOpen-later : (j k : ℕ) (e : Ends) → j ≤ k → AreOpen j e → AreOpen k e
AreOpen-later j k e le o = (λ h. o.0 (omega arith), λ h. o.1 (omega arith), λ h. o.2 (omega arith), λ h. o.3 (omega arith), λ h. o.4 (omega arith))

AreOpen-after : (after : Stage) (p : ℕ) (e : Ends) → AreOpen (place after) (end_at after p e)
AreOpen-after after p e = grind (arith, nat_tests)

-- ---- over the stages

index_inside : (stage : Stage) (e : Ends) (s : List ℕ) → is_outside stage ≡ false → index_after stage e s ≡ e.whole + (1 + length s)
unfolding is_outside
index_inside stage e s inside = grind (arith, common_steps)

-- one subtag before those of a part moves the ends from this part on
AreLater-add :
    (after : Stage) (d e : Ends) (s : List ℕ) (b : Read) → AreOpen (place after) e →
    AreLater d (end_at after (e.whole + (1 + length s)) e) (by_part after b) → AreLater d e (add (place after) s (by_part after b))
AreLater-add after d e s b o later = grind (arith, common_steps, nat_tests)

AreRight : Stage → List (List ℕ) → Type 0
AreRight stage ss =
    (e : Ends) → is_outside stage ≡ false → AreOpen (place stage) e → AreLater (ends_after stage e ss) e (by_part stage (decode stage ss))

none_right : (stage : Stage) → may_end stage ≡ true → AreRight stage []
unfolding AreRight ends_after decode
none_right stage ends e inside o = grind (arith, nat_tests, ends)

more_right : (stage after : Stage) (s : List ℕ) (ss : List (List ℕ)) → next_stage stage s ≡ Some after → AreRight after ss → AreRight stage (s ∷ ss)
unfolding AreRight
more_right stage after s ss next right e inside o =
    let step = next_step stage after s next in
    let p = e.whole + (1 + length s) in
    let d = ends_after after (end_at after p e) ss in
    let same : ends_after stage e (s ∷ ss) ≡ d = ends_after-cons stage e s ss ∙ rw (next, index_inside stage e s inside) refl in
    let later = AreLater-add after d e s (decode after ss) (AreOpen-later (place stage) (place after) e (places stage after step.0) o)
    (right (end_at after p e) (next_inside stage after s next) (AreOpen-after after p e)) in
    rw (same, decode-cons stage after s ss next, by_part-put stage after s (decode after ss) step.0 step.1) later

-- the ends of a record are that of its primary subtag, and later ones
ends_of-later : (d : Ends) (r : Record) → AreLater d (all_at (length r.primary)) (blocks r.extended r) → d ≡ ends_of r
ends_of-later d r later = grind (arith, common_steps, ends_equal d (ends_of r), weight-hyphenated, length-join, length-hyphenated)

-- after all subtags of a well-formed record the ends are those of its parts
pub ends_after-flat : (r : Record) → IsWellFormed r → ends_after Start (all_at 0) (flat r) ≡ ends_of r
unfolding AreRight runs is_outside
ends_after-flat r fits =
    let taken = cond (leb (length r.primary) 3) 0 3 in
    let e = all_at (length r.primary) in
    let others : List (List ℕ) = drop 1 (flat r) in
    let next : next_stage Start r.primary ≡ Some (Language taken) = rw fits.primary refl in
    let run : runs (Language taken) others ≡ true = rw fits.primary at (decode_complete r fits).run in
    let right = over_run AreRight none_right more_right others (Language taken) run e refl (AreOpen-after Start (length r.primary) e) in
    let first = decode-cons Start (Language taken) r.primary others next in
    let ends = ends_after-cons Start (all_at 0) r.primary others in
    grind (arith, common_steps, next, first, (decode_complete r fits).is, ends, ends_of-later (ends_after (Language taken) e others) r, right)
