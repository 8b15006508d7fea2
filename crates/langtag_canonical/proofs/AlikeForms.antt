-- The case of letters changes nothing in a canonical form: those of alike texts are alike.
use Rattle.langtag_scan.proofs.Prelude.{◌≡◌, ℕ, List, [], ◌∷◌, map, Option, option_map, ◌⊎◌, refl, sym, ap, ◌∙◌, arith, common_steps}
use Rattle.langtag_scan.specs.Grammar.{fold_extension, fold_record, AlikeRecords, fold_text, Alike, fold_byte, Extension, Record, spell, IsWellFormed, IsNormal}
use Rattle.langtag_scan.proofs.CaseLaw.{alike_normal, alike_parts, fold_byte-twice, fold_text-twice, map-twice, spelled_alike, fold_extension-twice}
use Rattle.langtag.specs.Registered.{IsGrandfathered}
use Rattle.langtag_canonical.specs.Canonical.{in_order, canonical_primary, canonical_extended, canonical_region, canonical_variants, canonical_record, IsReplacedForm}
use Rattle.langtag_fields.specs.Fields.{preferred_region, preferred_variant, preferred_tag}
use Rattle.langtag_canonical.proofs.ReplacedSubtags.{replaced-alike, IgnoresCase, ignore_case, extlang-alike, extlang_small, replaced, IsSettled, language_settled, region_settled, variant_settled}
use Rattle.langtag_canonical.proofs.OneForm.{Way, as_whole, as_it_is, by_parts, way_of}
use Rattle.langtag_canonical.proofs.TwiceLaws.{itself}
use Rattle.langtag_canonical.proofs.ExtensionOrder.{key, sorted_by-map, keys_of, rising_stay}
use Rattle.langtag_canonical.proofs.CanonicalParts.{record_stays, parts_stay, own_record, kept_form, preferred_goes}
use Rattle.langtag_fields.proofs.Values.{registered_extlang-alike, preferred_tag-alike}
use Rattle.langtag.proofs.RegisteredLaws.{grandfathered_alike}

-- ---- the canonical record of a folded record

primary-fold : (p : List ℕ) (es : List (List ℕ)) → Alike (canonical_primary (fold_text p) (map fold_text es)) (canonical_primary p es)
primary-fold p es = grind (arith, common_steps, replaced-alike, ignore_case.0, fold_text-twice, extlang-alike)

extended-fold : (es : List (List ℕ)) → map fold_text (canonical_extended (map fold_text es)) ≡ map fold_text (canonical_extended es)
extended-fold es = grind (arith, common_steps, registered_extlang-alike, fold_text-twice, map-twice fold_text fold_text-twice)

region-fold : (o : Option (List ℕ)) → option_map fold_text (canonical_region (option_map fold_text o)) ≡ option_map fold_text (canonical_region o)
region-fold o = grind (arith, common_steps, replaced-alike preferred_region ignore_case.1, ignore_case.1, fold_text-twice)

variants-fold : (vs : List (List ℕ)) → map fold_text (canonical_variants (map fold_text vs)) ≡ map fold_text (canonical_variants vs)
variants-fold [] = refl
variants-fold (v ∷ vs) = grind (arith, common_steps, replaced-alike preferred_variant ignore_case.2 (fold_text v) v, fold_text-twice v, variants-fold vs)

in_order-fold : (es : List Extension) → map fold_extension (in_order (map fold_extension es)) ≡ map fold_extension (in_order es)
unfolding in_order
in_order-fold es = grind (arith, common_steps, key, sorted_by-map, fold_byte-twice, map-twice, fold_extension-twice)

canonical_record-fold : (r : Record) → AlikeRecords (canonical_record (fold_record r)) (canonical_record r)
unfolding canonical_record
canonical_record-fold r =
    grind (arith, common_steps, fold_text-twice, primary-fold, extended-fold, region-fold, variants-fold, in_order-fold, fold_byte-twice, map-twice)

-- alike records have alike canonical records
canonical_record-alike : (r q : Record) → AlikeRecords r q → AlikeRecords (canonical_record r) (canonical_record q)
canonical_record-alike r q alike = sym (canonical_record-fold r) ∙ ap (λ z. fold_record (canonical_record z)) alike ∙ canonical_record-fold q

-- ---- alike texts

pub alike_forms : (old other new newer : List ℕ) → Alike old other → IsReplacedForm old new → IsReplacedForm other newer → Alike new newer
alike_forms old other new newer alike p q = by_way (way_of old)
  where
    same : preferred_tag other ≡ preferred_tag old
    same = sym (preferred_tag-alike old other alike)

    why_other : IsGrandfathered old ⊎ (IsNormal old → ⊥) → IsGrandfathered other ⊎ (IsNormal other → ⊥)
    why_other h = grind (arith, common_steps, grandfathered_alike old other alike, alike_normal other old (sym alike))

    by_way : Way old → Alike new newer
    by_way (as_whole w is) = ap fold_text (p.whole w is ∙ sym (q.whole w (same ∙ is)))
    by_way (as_it_is none why) = ap fold_text (p.kept none why) ∙ alike ∙ ap fold_text (sym (q.kept (same ∙ none) (why_other why)))
    by_way (by_parts none new_one r spells) =
        let other_one = alike_parts old other alike r spells in
        let s : Record = other_one.0 in
        let text = spelled_alike (canonical_record r) (canonical_record s) (canonical_record-alike r s other_one.2) in
        ap fold_text (p.parts none new_one r spells)
        ∙ replaced-alike preferred_tag preferred_tag-alike (spell (canonical_record r)) (spell (canonical_record s)) text
        ∙ ap fold_text (sym (q.parts (same ∙ none) (λ is. new_one (grandfathered_alike other old (sym alike) is)) s other_one.1))

-- ---- a subtag that stays, and one that is alike

module _ (preferred : List ℕ → Option (List ℕ)) (settled : IsSettled preferred) (ignores : IgnoresCase preferred) where
  alike_stays : (s t : List ℕ) → Alike s t → replaced preferred s ≡ s → replaced preferred t ≡ t
  alike_stays s t alike stays = grind (arith, common_steps, ignores s t)

-- ---- each part

abbrev StaysLanguage : List ℕ → List (List ℕ) → Type 0
StaysLanguage primary extended = (canonical_primary primary extended ≡ primary) × (canonical_extended extended ≡ extended)

language_stays :
    (p q : List ℕ) (es fs : List (List ℕ)) → Alike p q → map fold_text es ≡ map fold_text fs → StaysLanguage p es → StaysLanguage q fs
language_stays p q es fs alike same stays =
    grind (arith, common_steps, alike_stays, language_settled, ignore_case.0, extlang_small, extlang-alike, registered_extlang-alike)

region_stays : (o u : Option (List ℕ)) → option_map fold_text o ≡ option_map fold_text u → canonical_region o ≡ o → canonical_region u ≡ u
region_stays o u same stays = grind (arith, common_steps, alike_stays, region_settled, ignore_case.1)

variants_stay : (vs ws : List (List ℕ)) → map fold_text vs ≡ map fold_text ws → canonical_variants vs ≡ vs → canonical_variants ws ≡ ws
variants_stay [] [] same stays = refl
variants_stay [] (w ∷ ws) same stays = absurd cc
variants_stay (v ∷ vs) [] same stays = absurd cc
variants_stay (v ∷ vs) (w ∷ ws) same stays = grind (arith, common_steps, alike_stays preferred_variant variant_settled ignore_case.2 v w, variants_stay vs ws)

keys_folded : (es : List Extension) → map (λ e. e.singleton) (map fold_extension es) ≡ keys_of es
keys_folded [] = refl
keys_folded (e ∷ es) = ap (λ ns. fold_byte e.singleton ∷ ns) (keys_folded es)

-- ---- the record

alike_record_stays : (r q : Record) → IsWellFormed q → AlikeRecords r q → canonical_record r ≡ r → canonical_record q ≡ q
alike_record_stays r q well alike stays =
    grind (arith, common_steps, parts_stay r stays, record_stays q, language_stays r.primary q.primary r.extended q.extended, region_stays r.region, variants_stay r.variants, keys_folded, (rising_stay q.extensions).0, (rising_stay r.extensions).1)

-- ---- the text

pub canonical_in_any_case : (text other : List ℕ) → Alike text other → IsReplacedForm text text → IsReplacedForm other other
canonical_in_any_case text other alike p = by_way (way_of other)
  where
    same : preferred_tag text ≡ preferred_tag other
    same = preferred_tag-alike text other alike

    by_way : Way other → IsReplacedForm other other
    by_way (as_whole w is) = absurd (preferred_goes text w (same ∙ is) p)
    by_way (as_it_is none why) = kept_form other other none why refl
    by_way (by_parts none new q spells) =
        let like = alike_parts other text (sym alike) q spells in
        let own = p.parts (same ∙ none) (λ old. new (grandfathered_alike text other alike old)) like.0 like.1 in
        itself other q none spells (alike_record_stays like.0 q spells.0 (sym like.2) (own_record text like.0 like.1 own))
