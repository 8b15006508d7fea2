use Rattle.langtag_scan.proofs.Prelude.{rules, tests, YieldsList-from_slice_split}
use Rattle.std.proofs.lemmas.Iterator.Search.{any_from_yields_List}
use Rattle.langtag_scan.specs.Grammar.{is_hyphen}
use Rattle.langtag_posix.specs.Posix.{is_single}
use Rattle.langtag_posix.proofs.posix_text.has_extension.Goals as goal

pub returns : goal.returns
returns c =
    any_from_yields_List is_single c.any.new.self _ c.any.result c.any.ensures.ran
    (YieldsList-from_slice_split _ is_hyphen c.args.text.now c.split.ensures.rest c.split.ensures.done c.split.ensures.closure (λ x r q k. search (rules, tests)))
    (λ x r q k. search rules)
