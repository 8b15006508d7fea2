use Rattle.langtag_scan.proofs.Prelude.{length, ap, sym, true, false, ◌∙◌, ◌<◌, get_or, arith, [], eq-eqb, ne_eqb, common_steps}
use Rattle.langtag_scan.proofs.SubtagFacts.{of_variant}
use Rattle.langtag_place.specs.Text.{variant_text}
use Rattle.langtag_range.specs.Extended.{test_extended}
use Rattle.langtag_scan.specs.Case.{folded_number}
use Rattle.langtag_fields.specs.Subtags.{variant_prefixes}
use Rattle.langtag_registry.proofs.MisplacedLaws.{length-same, same_at, number_tells, left_first, left_matched, left_unmatched, left_other, left_ended}
use Rattle.langtag_text.proofs.Elements.{list_all_get}
use Rattle.langtag_fields.proofs.FieldTables.{prefixed_alphanumeric}
use Rattle.langtag_fields.proofs.Values.{no_entry}
use Rattle.langtag_registry.proofs.misplaced.fits_after.Goals.{then-number-key+else-matches_at, else-number-key}
use Rattle.langtag_registry.proofs.misplaced.fits_after.Goals as goal

pub folded_number-number-requires : goal.folded_number-number-requires
folded_number-number-requires c = rw c.as_bytes.ensures (of_variant (variant_text c.args.variant) c.args.variant.in_class).short

pub loop-index-init : goal.loop-index-init
loop-index-init c = record { left = left_first c.args.before.now (variant_text c.args.variant); matching = c.requires }

pub matches_at-requires-clause-matching : goal.matches_at-requires-clause-matching
matches_at-requires-clause-matching c = c.loop-index.invariant.matching

pub returns-then-matches_at-clause-fits : goal.returns-then-matches_at-clause-fits
returns-then-matches_at-clause-fits c =
    grind (arith, common_steps, length-same, left_matched, number_tells, no_entry, list_all_get, prefixed_alphanumeric, of_variant, same_at, eq-eqb)

pub loop-index-preserved : goal.loop-index-preserved
loop-index-preserved c =
    let items = c.variant_prefixes-prefixes.ensures in
    let i = c.loop-index.index in
    let text = variant_text c.args.variant in
    let long = length-same (λ pair. pair.1.now) (λ e. e.value) _ _ items.values in
    let inside = c.loop-index-test.true in
    let within : i < length variant_prefixes = omega (arith, inside, long) in
    let good = list_all_get (λ e. _) variant_prefixes i no_entry prefixed_alphanumeric within in
    let also = (of_variant text c.args.variant.in_class).alphanumeric in
    let number = c.folded_number-number.ensures.number ∙ ap folded_number c.as_bytes.ensures in
    let key = same_at (λ pair. pair.0) (λ e. folded_number e.subtag) _ _ items.numbers i _ no_entry 0 inside in
    elim c.if-number-key.branch [
      | then-number-key+else-matches_at w ↦ record {
        left = rw w.has_none-is (
            left_unmatched c.args.before.now text c.loop-index.has_none i c.loop-index.invariant.left within
            (number_tells (get_or variant_prefixes i no_entry) text _ _ true good also number key (eq-eqb _ _ w.if-number-key.true))
            (ap (λ prefix. test_extended prefix c.args.before.now) (sym (same_at (λ pair. pair.1.now) (λ e. e.value) _ _ items.values i _ no_entry [] inside))
            ∙ sym w.matches_at.ensures.test ∙ w.if-matches_at.false));
        matching = rw w.matching-is w.matches_at.ensures.matching;
      }
      | else-number-key w ↦ record {
        left = rw w.has_none-is (
            left_other c.args.before.now text c.loop-index.has_none i c.loop-index.invariant.left within
            (number_tells (get_or variant_prefixes i no_entry) text _ _ false good also number key (ne_eqb _ _ w.if-number-key.false)));
        matching = rw w.matching-is c.loop-index.invariant.matching;
      }
    ]

pub returns-clause-fits : goal.returns-clause-fits
returns-clause-fits c = grind (arith, common_steps, length-same, left_ended)

pub returns-clause-matching : goal.returns-clause-matching
returns-clause-matching c = c.loop-index.invariant.matching
