use Rattle.langtag_scan.proofs.Prelude.{arith, nat_tests, common_steps, and_parts}
use Rattle.langtag_choice.proofs.PreparedForms.{not_zero}
use Rattle.langtag_choice.proofs.prepared_form.filled.Goals as goal

pub returns-in-len2 : goal.returns-in-len2
returns-in-len2 c = λ plain one most. grind (arith, nat_tests, common_steps, not_zero, and_parts)

pub returns-in-len3 : goal.returns-in-len3
returns-in-len3 c = λ plain one most. grind (arith, nat_tests, common_steps, not_zero, and_parts)

pub returns-in-len4 : goal.returns-in-len4
returns-in-len4 c = λ plain one most. grind (arith, nat_tests, common_steps, not_zero, and_parts)
