use Rattle.std.proofs.Common.{arith}
use Rattle.langtag_text.proofs.Letters.{letter_place}
use Rattle.langtag_text.proofs.letter_numbers.place.Goals as goal

pub overflow_sub-result : goal.overflow_sub-result
overflow_sub-result c =
    let some = (letter_place c.args.byte c.requires).some in
    let same = c.from.ensures in
    let folded = c.into_smallcase.ensures in
    omega (arith, some, same, folded)
