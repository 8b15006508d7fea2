use Rattle.langtag_scan.proofs.Prelude.{rules, YieldsList-from_first, YieldsList-at}
use Rattle.std.proofs.lemmas.Iterator.{YieldsList-from_take}
use Rattle.std.proofs.lemmas.Iterator.Search.{any_from_yields_List}
use Rattle.langtag_scan.specs.Grammar.{are_alike, subtags}
use Rattle.langtag_place.specs.Text.{variant_text, variants_text, variants_left}
use Rattle.langtag_place.proofs.repeats.is_among_first.Goals as goal

pub returns : goal.returns
returns c =
    let walk = YieldsList-from_first variant_text variants_left (subtags (variants_text c.args.variants)) c.iter.ensures.list in
    any_from_yields_List (are_alike (variant_text c.args.variant)) c.any.new.self _ c.any.result c.any.ensures.ran
    (YieldsList-from_take c.args.count (YieldsList-at c.take.ensures.source walk) c.take.ensures.count) (λ x b q k. search rules)
