use Rattle.langtag_scan.proofs.Prelude.{rules, tests, all_from_yields_List, YieldsList-from_slice_split}
use Rattle.langtag_range.specs.Definitions.{is_range_subtag, is_separator}
use Rattle.langtag_range.proofs.listed.are_listed_subtags.Goals as goal

pub returns : goal.returns
returns c =
    all_from_yields_List is_range_subtag c.all.new.self _ c.all.result c.all.ensures.ran
    (YieldsList-from_slice_split _ is_separator c.args.text.now c.split.ensures.rest c.split.ensures.done c.split.ensures.closure (λ x r q k. search (rules, tests)))
    (λ x r q k. search rules)
