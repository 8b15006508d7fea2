-- The subtags over which the stages run are those of the parts of a record, which is found from the last subtag on.
use Rattle.langtag_scan.proofs.Prelude.{◌≡◌, inl, inr, drop, ℕ, suc, zero, ◌-◌, ◌≤◌, true, false, List, [], ◌∷◌, ◌++◌, length, get_or, Option, Some, None, ◌⊎◌, refl, ◌∙◌, arith, ◌+◌, cond, eqb, leb, append_assoc, IsTrue, IfSome, AllByRecursion, flat_map, option_map_or, nat_tests, common_steps, and_from, eq-eqb, lt-ltb, le-leb}
use Rattle.std.specs.Prelude.{⊤}
use Rattle.langtag_scan.specs.Grammar.{is_primary, is_extended, is_script, is_region, is_variant, is_extension_subtag, is_private_subtag, PrivateUse, Extension, Record, IsWellFormedPrivateUse, IsWellFormedExtension, extension_flat, one_flat, private_part_flat, IsWellFormed, flat, Stage, Start, Language, Extended, AfterScript, AfterRegion, AfterVariant, AfterSingleton, InExtension, AfterMark, InPrivate, classes_of, next_stage, may_end}
use Rattle.langtag_scan.proofs.StageLaws.{runs, leads_to, may_follow, place, next_step, next_part, is_next_extended, part_ends, part_follows}
use Rattle.langtag_scan.proofs.Disjoint.{reached}

-- ---- from the subtags to the parts

-- what was read so far from the right: the subtags of an extension or private list whose head is still
-- to come, and the parts
pub record Read : Type 0 where
  pub after : List (List ℕ)
  pub parts : Record

-- parts without what stands before the private use part, the extensions, ..
abbrev pub from_private : Option PrivateUse → Record
from_private p = record { primary = []; extended = []; script = None; region = None; variants = []; extensions = []; private_use = p }

abbrev pub from_extensions : List Extension → Option PrivateUse → Record
from_extensions es p = record (from_private p) { extensions = es }

abbrev pub from_variants : List (List ℕ) → List Extension → Option PrivateUse → Record
from_variants vs es p = record (from_extensions es p) { variants = vs }

abbrev pub from_region : Option (List ℕ) → List (List ℕ) → List Extension → Option PrivateUse → Record
from_region g vs es p = record (from_variants vs es p) { region = g }

abbrev pub from_script : Option (List ℕ) → Option (List ℕ) → List (List ℕ) → List Extension → Option PrivateUse → Record
from_script c g vs es p = record (from_region g vs es p) { script = c }

abbrev pub from_extended : List (List ℕ) → Option (List ℕ) → Option (List ℕ) → List (List ℕ) → List Extension → Option PrivateUse → Record
from_extended xs c g vs es p = record (from_script c g vs es p) { extended = xs }

abbrev pub whole : Record → Read
whole r = record { after = []; parts = r }

abbrev pub pending : List (List ℕ) → List Extension → Option PrivateUse → Read
pending ss es p = record { after = ss; parts = from_extensions es p }

abbrev pub nothing : Read
nothing = whole (from_private None)

-- the parts with one subtag before them, which has brought the machine into this stage
abbrev pub put_part : Stage → List ℕ → List (List ℕ) → Record → Record
put_part (Language taken) s after r = record r { primary = s }
put_part (Extended taken) s after r = from_extended (s ∷ r.extended) r.script r.region r.variants r.extensions r.private_use
put_part AfterScript s after r = from_script (Some s) r.region r.variants r.extensions r.private_use
put_part AfterRegion s after r = from_region (Some s) r.variants r.extensions r.private_use
put_part AfterVariant s after r = from_variants (s ∷ r.variants) r.extensions r.private_use
put_part AfterSingleton s after r = from_extensions (record { singleton = get_or s 0 0; subtags = after } ∷ r.extensions) r.private_use
put_part InExtension s after r = from_extensions r.extensions r.private_use
put_part AfterMark s after r = from_private (Some (record { mark = get_or s 0 0; subtags = after }))
put_part _ s after r = from_private None

abbrev pub put : Stage → List ℕ → Read → Read
put InExtension s b = record { after = s ∷ b.after; parts = put_part InExtension s b.after b.parts }
put InPrivate s b = record { after = s ∷ b.after; parts = put_part InPrivate s b.after b.parts }
put stage s b = whole (put_part stage s b.after b.parts)

-- the parts of the subtags of a run
unfoldable pub decode : Stage → List (List ℕ) → Read
decode stage [] = nothing
decode stage (s ∷ ss) = option_map_or (λ after. put after s (decode after ss)) (next_stage stage s) nothing

pub decode-cons :
    (stage after : Stage) (s : List ℕ) (ss : List (List ℕ)) → next_stage stage s ≡ Some after →
    decode stage (s ∷ ss) ≡ put after s (decode after ss)
unfolding decode
decode-cons stage after s ss next = rw next refl

-- what holds where a tag may end, and of one more subtag before others of which it holds, holds of the subtags of a run
module _
    (P : Stage → List (List ℕ) → Type 0) (none : (stage : Stage) → may_end stage ≡ true → P stage [])
    (more : (stage after : Stage) (s : List ℕ) (ss : List (List ℕ)) → next_stage stage s ≡ Some after → P after ss → P stage (s ∷ ss))
  where
    by_next :
        (stage : Stage) (s : List ℕ) (ss : List (List ℕ)) (o : Option Stage) → next_stage stage s ≡ o →
        option_map_or (λ after. runs after ss) o false ≡ true → ((after : Stage) → runs after ss ≡ true → P after ss) → P stage (s ∷ ss)
    by_next stage s ss o next run others = grind (arith, common_steps)

    pub over_run : (ss : List (List ℕ)) (stage : Stage) → runs stage ss ≡ true → P stage ss
    unfolding runs
    over_run [] stage run = none stage run
    over_run (s ∷ ss) stage run = by_next stage s ss (next_stage stage s) refl run (over_run ss)

-- ---- subtags by parts

-- the subtags of each part, of which the language has these
abbrev pub blocks : List (List ℕ) → Record → List (List (List ℕ))
blocks language r =
    language ∷ one_flat r.script ∷ one_flat r.region ∷ r.variants ∷ flat_map extension_flat r.extensions
    ∷ private_part_flat r.private_use ∷ []

-- one subtag before those of a part, and none before it
abbrev pub add : ℕ → List ℕ → List (List (List ℕ)) → List (List (List ℕ))
add zero s [] = []
add zero s (b ∷ bs) = (s ∷ b) ∷ bs
add (suc k) s [] = []
add (suc k) s (b ∷ bs) = [] ∷ add k s bs

-- what was read after a stage, by parts
abbrev pub by_part : Stage → Read → List (List (List ℕ))
by_part Start b = blocks (b.parts.primary ∷ b.parts.extended) b.parts
by_part (Language taken) b = blocks b.parts.extended b.parts
by_part (Extended taken) b = blocks b.parts.extended b.parts
by_part AfterScript b = [] ∷ [] ∷ drop 2 (blocks [] b.parts)
by_part AfterRegion b = [] ∷ [] ∷ [] ∷ drop 3 (blocks [] b.parts)
by_part AfterVariant b = [] ∷ [] ∷ [] ∷ drop 3 (blocks [] b.parts)
by_part AfterSingleton b = [] ∷ [] ∷ [] ∷ [] ∷ (b.after ++ flat_map extension_flat b.parts.extensions) ∷ drop 5 (blocks [] b.parts)
by_part InExtension b = [] ∷ [] ∷ [] ∷ [] ∷ (b.after ++ flat_map extension_flat b.parts.extensions) ∷ drop 5 (blocks [] b.parts)
by_part _ b = [] ∷ [] ∷ [] ∷ [] ∷ [] ∷ b.after ∷ []

-- a subtag is put before those of its part
pub by_part-put :
    (stage after : Stage) (s : List ℕ) (b : Read) → may_follow stage after ≡ true → leads_to after (classes_of s) ≡ true →
    by_part stage (put after s b) ≡ add (place after) s (by_part after b)
by_part-put stage after s b follows class = grind (arith, nat_tests, follows, class)

-- ---- members of their classes

-- what the stage asks of the subtags after it
abbrev pub Ready : Stage → Read → Type 0
Ready Start b = IsTrue (is_primary b.parts.primary) × (length b.parts.extended ≤ 3) × ((length b.parts.primary ≤ 3) ⊎ (b.parts.extended ≡ []))
Ready (Language taken) b = length b.parts.extended ≤ 3 - taken
Ready (Extended taken) b = length b.parts.extended ≤ 3 - taken
Ready AfterSingleton b = AllByRecursion (λ s. IsTrue (is_extension_subtag s)) b.after × (1 ≤ length b.after)
Ready InExtension b = AllByRecursion (λ s. IsTrue (is_extension_subtag s)) b.after
Ready AfterMark b = AllByRecursion (λ s. IsTrue (is_private_subtag s)) b.after × (1 ≤ length b.after)
Ready InPrivate b = AllByRecursion (λ s. IsTrue (is_private_subtag s)) b.after
Ready _ b = ⊤

-- and of the parts (a product and no record: it is to compute at `put`)
abbrev pub FitParts : Record → Type 0
FitParts r =
    AllByRecursion (λ s. IsTrue (is_extended s)) r.extended
    × IfSome r.script (λ s. IsTrue (is_script s))
    × IfSome r.region (λ s. IsTrue (is_region s))
    × AllByRecursion (λ s. IsTrue (is_variant s)) r.variants
    × AllByRecursion IsWellFormedExtension r.extensions
    × IfSome r.private_use IsWellFormedPrivateUse

-- what is decoded is well formed, and spelled so
pub record IsSound (stage : Stage) (ss : List (List ℕ)) (b : Read) : Type 0 where
  pub ready : Ready stage b
  pub fit : FitParts b.parts
  pub spells : flat_map (λ part. part) (by_part stage b) ≡ ss

pub decode_sound : (ss : List (List ℕ)) (stage : Stage) → runs stage ss ≡ true → IsSound stage ss (decode stage ss)
unfolding decode
decode_sound = over_run (λ stage ss. IsSound stage ss (decode stage ss)) none more
  where
    none : (stage : Stage) → may_end stage ≡ true → IsSound stage [] (decode stage [])
    none stage ends = record { ready = grind (arith, nat_tests, ends); fit = (tt, tt, tt, tt, tt, tt); spells = grind (arith, nat_tests, ends) }

    more :
        (stage after : Stage) (s : List ℕ) (ss : List (List ℕ)) → next_stage stage s ≡ Some after → IsSound after ss (decode after ss) →
        IsSound stage (s ∷ ss) (decode stage (s ∷ ss))
    more stage after s ss next sound =
        grind (arith, common_steps, next_step stage after s next, decode-cons stage after s ss next, by_part-put stage after s)

-- ---- the subtags of a well-formed record are decoded, and give that record

-- the stages run over these subtags, and decode them to this
pub record Decodes (stage : Stage) (ss : List (List ℕ)) (b : Read) : Type 0 where
  pub run : runs stage ss ≡ true
  pub is : decode stage ss ≡ b

none_decodes : (stage : Stage) → may_end stage ≡ true → Decodes stage [] nothing
unfolding runs decode
none_decodes stage ends = record { run = ends; is = refl }

more_decode :
    {ss : List (List ℕ)} {b : Read} (stage after : Stage) (s : List ℕ) → may_follow stage after ≡ true →
    leads_to after (classes_of s) ≡ true → Decodes after ss b → Decodes stage (s ∷ ss) (put after s b)
unfolding runs decode
more_decode {ss} {b} stage after s follows class others = grind (arith, common_steps, reached stage after s follows class, decode-cons stage after s ss)

-- the subtags of a private use part, where there is one or a tag may end
pub private_subtags :
    (stage : Stage) (ss : List (List ℕ)) → may_follow stage InPrivate ≡ true → (1 ≤ length ss) ⊎ (may_end stage ≡ true) →
    AllByRecursion (λ s. IsTrue (is_private_subtag s)) ss → Decodes stage ss (pending ss [] None)
private_subtags stage [] follows some fits = grind (arith, common_steps, none_decodes stage)
private_subtags stage (s ∷ ss) follows some fits = more_decode stage InPrivate s follows fits.0 (private_subtags InPrivate ss refl (inr refl) fits.1)

-- ---- the parts, from the last one on, where a tag may go on with any of them

private_decodes :
    (p : Option PrivateUse) → IfSome p IsWellFormedPrivateUse → (stage : Stage) → next_part stage ≤ 4 →
    Decodes stage (private_part_flat p) (whole (from_private p))
private_decodes None fits stage on = none_decodes stage (part_ends stage (omega arith))
private_decodes (Some p) fits stage on =
    more_decode stage AfterMark (p.mark ∷ []) (part_follows 4 stage AfterMark on refl) fits.mark (private_subtags AfterMark p.subtags refl (inl fits.some) fits.subtags)

module _ (p : Option PrivateUse) (fits_private : IfSome p IsWellFormedPrivateUse) where
  extension_subtags :
      (es : List Extension) (rest : List (List ℕ)) → Decodes InExtension rest (whole (from_extensions es p)) → (stage : Stage) (ss : List (List ℕ)) →
      may_follow stage InExtension ≡ true → (1 ≤ length ss) ⊎ (stage ≡ InExtension) → AllByRecursion (λ s. IsTrue (is_extension_subtag s)) ss →
      Decodes stage (ss ++ rest) (pending ss es p)
  extension_subtags es rest others stage [] follows some fits = grind (arith, common_steps)
  extension_subtags es rest others stage (s ∷ ss) follows some fits =
      more_decode stage InExtension s follows fits.0 (extension_subtags es rest others InExtension ss refl (inr refl) fits.1)

  one_extension :
      (e : Extension) (es : List Extension) (rest : List (List ℕ)) → IsWellFormedExtension e →
      Decodes InExtension rest (whole (from_extensions es p)) → (stage : Stage) → next_part stage ≤ 4 →
      Decodes stage (extension_flat e ++ rest) (whole (from_extensions (e ∷ es) p))
  one_extension e es rest fits others stage on =
      more_decode stage AfterSingleton (e.singleton ∷ []) (part_follows 4 stage AfterSingleton on refl) fits.singleton
      (extension_subtags es rest others AfterSingleton e.subtags refl (inl fits.some) fits.subtags)

  extensions_decode :
      (es : List Extension) → AllByRecursion IsWellFormedExtension es → (stage : Stage) → next_part stage ≤ 4 →
      Decodes stage (flat_map extension_flat es ++ private_part_flat p) (whole (from_extensions es p))
  extensions_decode [] fits stage on = private_decodes p fits_private stage on
  extensions_decode (e ∷ es) fits stage on = grind (arith, common_steps, append_assoc, one_extension e es, extensions_decode es fits.1 InExtension)

  module _ (es : List Extension) (fits_extensions : AllByRecursion IsWellFormedExtension es) where
    variants_decode :
        (vs : List (List ℕ)) → AllByRecursion (λ s. IsTrue (is_variant s)) vs → (stage : Stage) → next_part stage ≤ 3 →
        Decodes stage (vs ++ (flat_map extension_flat es ++ private_part_flat p)) (whole (from_variants vs es p))
    variants_decode [] fits stage on = extensions_decode es fits_extensions stage (omega arith)
    variants_decode (s ∷ vs) fits stage on =
        more_decode stage AfterVariant s (part_follows 3 stage AfterVariant on refl) fits.0 (variants_decode vs fits.1 AfterVariant (omega arith))

    module _ (vs : List (List ℕ)) (fits_variants : AllByRecursion (λ s. IsTrue (is_variant s)) vs) where
      region_decodes :
          (g : Option (List ℕ)) → IfSome g (λ s. IsTrue (is_region s)) → (stage : Stage) → next_part stage ≤ 2 →
          Decodes stage (one_flat g ++ (vs ++ (flat_map extension_flat es ++ private_part_flat p))) (whole (from_region g vs es p))
      region_decodes None fits stage on = variants_decode vs fits_variants stage (omega arith)
      region_decodes (Some s) fits stage on =
          more_decode stage AfterRegion s (part_follows 2 stage AfterRegion on refl) fits (variants_decode vs fits_variants AfterRegion (omega arith))

      module _ (g : Option (List ℕ)) (fits_region : IfSome g (λ s. IsTrue (is_region s))) where
        script_decodes :
            (c : Option (List ℕ)) → IfSome c (λ s. IsTrue (is_script s)) → (stage : Stage) → next_part stage ≤ 1 →
            Decodes stage (one_flat c ++ (one_flat g ++ (vs ++ (flat_map extension_flat es ++ private_part_flat p)))) (whole (from_script c g vs es p))
        script_decodes None fits stage on = region_decodes g fits_region stage (omega arith)
        script_decodes (Some s) fits stage on =
            more_decode stage AfterScript s (part_follows 1 stage AfterScript on refl) fits (region_decodes g fits_region AfterScript (omega arith))

        module _ (c : Option (List ℕ)) (fits_script : IfSome c (λ s. IsTrue (is_script s))) where
          language_decodes :
              (xs : List (List ℕ)) → AllByRecursion (λ s. IsTrue (is_extended s)) xs → (taken : ℕ) → length xs ≤ 3 - taken →
              (stage : Stage) → next_part stage ≤ 1 → ((more : ℕ) → may_follow stage (Extended more) ≡ is_next_extended taken more) →
              Decodes stage (xs ++ (one_flat c ++ (one_flat g ++ (vs ++ (flat_map extension_flat es ++ private_part_flat p))))) (whole (from_extended xs c g vs es p))
          language_decodes [] fits taken few stage on follows = script_decodes c fits_script stage on
          language_decodes (x ∷ xs) fits taken few stage on follows =
              let next : is_next_extended taken (taken + 1) ≡ true = rw (eq-eqb (taken + 1) (taken + 1) refl, lt-ltb taken 3 (omega arith)) refl in
              more_decode stage (Extended (taken + 1)) x (follows (taken + 1) ∙ next) fits.0
              (language_decodes xs fits.1 (taken + 1) (omega arith) (Extended (taken + 1)) (omega arith) (λ more. refl))

-- how many extended subtags stand after a primary one
few_extended : (n : ℕ) (xs : List (List ℕ)) → length xs ≤ 3 → ((n ≤ 3) ⊎ (xs ≡ [])) → length xs ≤ 3 - cond (leb n 3) 0 3
few_extended n xs few h = grind (arith, common_steps, le-leb n 3)

-- the subtags of a well-formed record are decoded to it
pub decode_complete : (r : Record) → IsWellFormed r → Decodes Start (flat r) (whole r)
decode_complete r fits =
    let taken = cond (leb (length r.primary) 3) 0 3 in
    let few = few_extended (length r.primary) r.extended fits.few fits.short in
    more_decode Start (Language taken) r.primary refl (and_from (is_primary r.primary) (eqb taken taken) fits.primary (eq-eqb taken taken refl))
    (language_decodes r.private_use fits.private_use r.extensions fits.extensions r.variants fits.variants r.region fits.region r.script fits.script
    r.extended fits.extended taken few (Language taken) (omega arith) (λ more. refl))

-- no two well-formed records have the same subtags
pub flat_once : (r q : Record) → IsWellFormed r → IsWellFormed q → flat r ≡ flat q → r ≡ q
flat_once r q fits fit e = grind (arith, common_steps, decode_complete r fits, decode_complete q fit)
