use Rattle.langtag_scan.proofs.Prelude.{◌+◌, arith, drop, common_steps, slice_split_none}
use Rattle.langtag_extension.proofs.ExtensionLookUp.{list_all-next_subtag, opens-one}
use Rattle.langtag_extension.proofs.extension_texts.first_extension_end.Goals as goal

pub loop-end-init : goal.loop-end-init
loop-end-init c = grind (arith, common_steps, slice_split_none)

pub loop-end-preserved : goal.loop-end-preserved
loop-end-preserved c = grind (arith, common_steps, list_all-next_subtag)

pub returns-then-next-end : goal.returns-then-next-end
returns-then-next-end c = grind (arith, common_steps, opens-one (drop (c.loop-end.end + 1) c.args.text.now))
