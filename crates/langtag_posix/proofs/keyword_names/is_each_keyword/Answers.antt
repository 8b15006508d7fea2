use Rattle.langtag_scan.proofs.Prelude.{rules, tests, all_from_yields_List, YieldsList-from_slice_split}
use Rattle.langtag_posix.specs.KeywordNames.{is_keyword, is_semicolon}
use Rattle.langtag_posix.proofs.keyword_names.is_each_keyword.Goals as goal

pub returns : goal.returns
returns c =
    all_from_yields_List is_keyword c.all.new.self _ c.all.result c.all.ensures.ran
    (YieldsList-from_slice_split _ is_semicolon c.args.modifier.now c.split.ensures.rest c.split.ensures.done c.split.ensures.closure (λ x r q k. search (rules, tests)))
    (λ x r q k. search rules)
