use Rattle.langtag_scan.proofs.Prelude.{◌+◌, ◌*◌, arith, refl, nat_tests}
use Rattle.std.proofs.lemmas.List.Sums.{fold_more}
use Rattle.langtag_scan.specs.Case.{folded_number}
use Rattle.langtag_scan.proofs.FoldedNumbers.{digit_fits, fits_64, folded_number-tells}
use Rattle.langtag_scan.proofs.case.folded_number.Goals as goal

pub loop-byte-init : goal.loop-byte-init
unfolding folded_number
loop-byte-init c = record { so_far = refl; digits = omega arith }

pub overflow_mul-number : goal.overflow_mul-number
overflow_mul-number c =
    let below = digit_fits c.loop-byte.number c.loop-byte.byte-index 0 c.loop-byte.invariant.digits (omega arith) in
    omega (arith, fits_64 (c.loop-byte.number * 256 + 0) (c.loop-byte.byte-index + 1) below (omega (arith, c.requires, c.loop-byte-test.true)))

pub overflow_add-number : goal.overflow_add-number
overflow_add-number c =
    let below =
    digit_fits c.loop-byte.number c.loop-byte.byte-index c.from.result c.loop-byte.invariant.digits (omega (arith, c.into_smallcase.type_inv, c.from.ensures)) in
    omega (arith, fits_64 (c.loop-byte.number * 256 + c.from.result) (c.loop-byte.byte-index + 1) below (omega (arith, c.requires, c.loop-byte-test.true)))

pub loop-byte-preserved : goal.loop-byte-preserved
unfolding folded_number
loop-byte-preserved c = grind (arith, nat_tests, fold_more, digit_fits c.loop-byte.number c.loop-byte.byte-index c.from.result c.loop-byte.invariant.digits)

pub returns-clause-tells : goal.returns-clause-tells
returns-clause-tells c = folded_number-tells
