use Rattle.langtag_c.proofs.ChoiceLaws.{prepared_current}
use Rattle.std.proofs.Common.{subst}
use Rattle.langtag_choice.specs.Prepared.{KeepsForm}
use Rattle.langtag_c.proofs.prepare.langtag_prepare.Goals as goal

pub returns-clause-prepared : goal.returns-clause-prepared
returns-clause-prepared c =
    prepared_current c.args.bytes.now (record { tag = c.args.tag.now.tag; form = c.of-tag.result }) c.bytes_in.result.now c.bytes_in.ensures.bytes c.of-tag.ensures.prepared

pub returns-clause-kept : goal.returns-clause-kept
returns-clause-kept c = λ has. subst (λ text. KeepsForm text c.of-tag.result) (c.bytes_in.ensures.bytes has) c.of-tag.ensures.kept
