use Rattle.langtag_scan.proofs.Prelude.{◌∙◌, arith}
use Rattle.langtag_c.proofs.PlaceLaws.{cut_place}
use Rattle.langtag_c.proofs.accepted.trimmed_span.Goals as goal

pub returns : goal.returns
returns c =
    let bytes = c.args.bytes.now in
    let item = c.args.item in
    let (start, end) = c.trimmed_place-start.result in
    let place = c.trimmed_place-start.ensures in
    let cut = cut_place bytes item start end place.ordered place.within in
    record { text = cut.0 ∙ place.trimmed; begins = omega arith; ends = cut.1; space = rw cut.2 place.space }
