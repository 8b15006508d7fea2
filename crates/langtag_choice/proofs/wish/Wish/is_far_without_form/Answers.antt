use Rattle.langtag_scan.proofs.Prelude.{and_from, both_ways, eq-eqb, not-true}
use Rattle.std.proofs.lemmas.Grind.{common_steps}
use Rattle.std.proofs.Common.{arith}
use Rattle.langtag_choice.proofs.FarTags.{far_without_form, nothing_kept}
use Rattle.langtag_choice.proofs.wish.Wish.is_far_without_form.Goals as goal

pub returns-in-Some-clause-far : goal.returns-in-Some-clause-far
returns-in-Some-clause-far c = grind (arith, common_steps, far_without_form, c.requires, c.args.self.now.begins, c.ne.ensures, both_ways, not-true, and_from, eq-eqb)

pub returns-in-Some-clause-kept : goal.returns-in-Some-clause-kept
returns-in-Some-clause-kept c = grind (arith, common_steps, nothing_kept, c.args.self.now.begins, c.ne.ensures, both_ways, not-true, and_from, eq-eqb)
