use Rattle.langtag_scan.proofs.Prelude.{arith, sym, YieldsList-from_first, IsNonDecreasingBy-from_sort}
use Rattle.std.proofs.lemmas.Iterator.Consumers.{count_from_yields_List}
use Rattle.langtag_scan.specs.Subtags.{subtags}
use Rattle.langtag_place.specs.Text.{variant_text, variants_text, variants_left}
use Rattle.langtag_place.proofs.RepeatLaws.{repeat-past}
use Rattle.langtag_place.proofs.variant_blocks.first_repeated_of_many.Goals as goal

pub first_met_again-repeated-requires-clause-rises : goal.first_met_again-repeated-requires-clause-rises
first_met_again-repeated-requires-clause-rises g c = IsNonDecreasingBy-from_sort (λ x. x) c.sort_unstable.new.self c.sort_unstable.ensures.sorted

pub returns : goal.returns
returns g c =
    let all = subtags (variants_text c.args.variants) in
    let counted = count_from_yields_List c.iter.result c.count-count.result c.count-count.ensures.ran (YieldsList-from_first variant_text variants_left all c.iter.ensures.list) in
    let within = c.loop-start.invariant.within in
    let past = c.loop-start-test.false in
    sym (repeat-past all c.loop-start.start (omega (arith, counted, within, past)) c.loop-start.invariant.new)
