use Rattle.langtag_scan.proofs.Prelude.{arith, common_steps}
use Rattle.langtag_cldr.proofs.WholeTags.{keeps_few, keeps_long, keeps_none, keeps_other, keeps_pair, keeps_single}
use Rattle.langtag_cldr.proofs.replacement.may_change_language.Goals as goal

pub returns-in-len3-up : goal.returns-in-len3-up
returns-in-len3-up c = grind (arith, common_steps, keeps_single c.args.text.now)

pub returns-in-len3 : goal.returns-in-len3
returns-in-len3 c = grind (arith, common_steps, keeps_other c.args.text.now)

pub returns-else-not-begins_counted-2 : goal.returns-else-not-begins_counted-2
returns-else-not-begins_counted-2 c = grind (arith, common_steps, keeps_pair c.args.text.now)

pub returns-else-is_separator-3 : goal.returns-else-is_separator-3
returns-else-is_separator-3 c = grind (arith, common_steps, keeps_long c.args.text.now) steps 40000000

pub returns-else-is_letter : goal.returns-else-is_letter
returns-else-is_letter c = grind (arith, common_steps, keeps_other c.args.text.now)

pub returns-in_default : goal.returns-in_default
returns-in_default c = λ no. keeps_none c.args.text.now c.in_default.len_below

pub returns-in_default-2 : goal.returns-in_default-2
returns-in_default-2 c = grind (arith, common_steps, keeps_few c.args.text.now)
