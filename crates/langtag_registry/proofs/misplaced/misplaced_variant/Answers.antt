use Rattle.langtag_scan.proofs.Prelude.{[], ◌∷◌, ◌++◌, take, get_or, subst, false≢true, ap, sym, ◌∙◌, arith, IsCharBoundary-from_ascii, common_steps, nat_tests}
use Rattle.langtag_scan.proofs.Ascii.{IsAscii-normal}
use Rattle.langtag_place.specs.Text.{variant_text}
use Rattle.langtag_scan.specs.Grammar.{Spells, spell}
use Rattle.langtag_range.specs.Extended.{test_extended}
use Rattle.langtag_registry.specs.Matching.{prefixes}
use Rattle.langtag_registry.specs.Prefix.{fits_after}
use Rattle.langtag.proofs.PartRules.{variants_listed}
use Rattle.langtag_registry.proofs.MisplacedLaws.{walk_first, end_within, walk_stopped, walk_later, walk_ended, some_record, take_sliced, text_later, test_extended-more, unmarked}
use Rattle.langtag_registry.proofs.misplaced.misplaced_variant.Goals as goal

pub loop-variant-init : goal.loop-variant-init
loop-variant-init c = record {
  can_next = tt;
  is_finite = tt;
  walked = λ r spells. grind (arith, common_steps, walk_first, variants_listed);
  matching = λ index is. absurd (false≢true (sym (unmarked 512 index) ∙ is));
}

pub range-requires-clause-end_boundary : goal.range-requires-clause-end_boundary
range-requires-clause-end_boundary c = grind (arith, common_steps, some_record, end_within, IsCharBoundary-from_ascii, IsAscii-normal)

pub fits_after-requires : goal.fits_after-requires
fits_after-requires c = grind (arith, nat_tests, take_sliced, c.as_str.ensures.same_text, c.range.ensures.value, c.loop-variant.invariant.matching)

pub returns-then-not-fits_after : goal.returns-then-not-fits_after
returns-then-not-fits_after c = λ r spells.
    walk_stopped r _ _ (c.loop-variant.invariant.walked r spells) (variant_text c.in-Some.variant) _ c.in-Some.ensures.steps
    (ap (λ text. fits_after text (variant_text c.in-Some.variant)) (take_sliced (spell r) _ _ _ (spells.1 ∙ sym c.as_str.ensures.same_text) c.range.ensures.value)
    ∙ sym c.fits_after.ensures.fits ∙ c.if-not-fits_after.true)

pub loop-variant-preserved : goal.loop-variant-preserved
loop-variant-preserved c = record {
  can_next = tt;
  is_finite = tt;
  walked = λ r spells.
      walk_later r _ _ (c.loop-variant.invariant.walked r spells) (variant_text c.in-Some.variant) _ c.in-Some.ensures.steps _ c.as_str-in-loop-variant.ensures.same_text
      (ap (λ text. fits_after text (variant_text c.in-Some.variant)) (take_sliced (spell r) _ _ _ (spells.1 ∙ sym c.as_str.ensures.same_text) c.range.ensures.value)
      ∙ sym c.fits_after.ensures.fits ∙ c.if-not-fits_after.false);
  matching = λ index is.
      let text = c.range.result.now in
      let variant = variant_text c.in-Some.variant in
      let found = some_record c.as_str.result.now c.as_str.ensures.in_class in
      let spells = subst (Spells found.0) c.as_str.ensures.same_text found.1 in
      let later =
      text_later found.0 _ _ (c.loop-variant.invariant.walked found.0 spells) variant _ c.in-Some.ensures.steps _ c.as_str-in-loop-variant.ensures.same_text in
      let here = take_sliced (spell found.0) _ text _ found.1.1 c.range.ensures.value in
      let cut = ap (take _) (sym spells.1) ∙ later ∙ ap (λ before. before ++ 45 ∷ variant) here in
      ap (test_extended (get_or prefixes index [])) cut ∙ test_extended-more (get_or prefixes index []) text variant (c.fits_after.ensures.matching index is);
}

pub returns : goal.returns
returns c = grind (arith, common_steps, walk_ended)
