use Rattle.langtag_scan.proofs.Prelude.{arith, common_steps, get_or}
use Rattle.langtag_range.proofs.PlainElements.{read_unweighted, read_tenths, tenths_and_rest}
use Rattle.langtag_range.proofs.plain_element.plain_weight.Goals as goal

pub returns-in_ok-after_comma-in-59 : goal.returns-in_ok-after_comma-in-59
returns-in_ok-after_comma-in-59 c = λ range is.
    grind (arith, common_steps, tenths_and_rest c.args.text.now, read_tenths range is (get_or c.args.text.now 5 0))

pub returns-in_ok-after_comma-in_default : goal.returns-in_ok-after_comma-in_default
returns-in_ok-after_comma-in_default c = λ range is. read_unweighted range is c.args.text.now c.in_ok-after_comma-in_default.field-0.now (grind (arith, common_steps))
