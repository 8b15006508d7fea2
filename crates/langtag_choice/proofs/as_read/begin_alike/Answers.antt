use Rattle.langtag_scan.proofs.Prelude.{sym, ◌∙◌, arith, nat_tests}
use Rattle.langtag_choice.proofs.AsRead.{same_first}
use Rattle.langtag_choice.proofs.as_read.begin_alike.Goals as goal

pub returns-then-ends_subtag : goal.returns-then-ends_subtag
returns-then-ends_subtag c = λ yes.
    same_first c.args.range.now c.args.tag.now (grind (arith, nat_tests)) (grind (arith, nat_tests)) (sym c.are_equal_letters.ensures ∙ c.if-are_equal_letters.true)
    (sym c.ends_subtag.ensures ∙ c.if-ends_subtag.true) (sym c.ends_subtag-then-ends_subtag.ensures ∙ yes) c.requires
