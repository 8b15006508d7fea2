use Rattle.langtag_scan.proofs.Prelude.{not-true, arith, nat_tests}
use Rattle.langtag_choice.proofs.FoundLaws.{none_refused, unrefused_entry}
use Rattle.langtag_choice.proofs.best.is_chosen.Goals as goal

pub returns-then-not-has_zero : goal.returns-then-not-has_zero
returns-then-not-has_zero g c = grind (arith, nat_tests, unrefused_entry, c.args.index, c.tag_at.ensures, c.in-Some.is, none_refused, c.requires.zero, not-true)
