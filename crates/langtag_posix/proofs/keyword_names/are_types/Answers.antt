use Rattle.langtag_scan.proofs.Prelude.{rules, tests, all_from_yields_List, YieldsList-from_slice_split}
use Rattle.langtag_scan.specs.Grammar.{is_hyphen}
use Rattle.langtag_keyword.specs.Edit.{is_type}
use Rattle.langtag_posix.proofs.keyword_names.are_types.Goals as goal

pub returns : goal.returns
returns c =
    all_from_yields_List is_type c.all.new.self _ c.all.result c.all.ensures.ran
    (YieldsList-from_slice_split _ is_hyphen c.args.value.now c.split.ensures.rest c.split.ensures.done c.split.ensures.closure (λ x r q k. search (rules, tests)))
    (λ x r q k. search rules)
