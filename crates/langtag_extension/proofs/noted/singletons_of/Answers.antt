use Rattle.langtag_scan.proofs.Prelude.{true, ap, ◌∙◌, arith, length-set, common_steps, ne_eqb}
use Rattle.langtag_extension.specs.Noted.{of_singleton}
use Rattle.langtag_extension.proofs.noted.singletons_of.Goals as goal

pub loop-extension-init : goal.loop-extension-init
loop-extension-init c = grind (arith, common_steps)

pub loop-extension-preserved : goal.loop-extension-preserved
loop-extension-preserved c = grind (arith, common_steps, length-set c.loop-extension.present c.from.result true, ne_eqb)

pub returns : goal.returns
returns c = λ es spells s none. c.loop-extension.invariant.so_far es spells s none ∙ ap (of_singleton s) c.in-None.ensures.steps.0
