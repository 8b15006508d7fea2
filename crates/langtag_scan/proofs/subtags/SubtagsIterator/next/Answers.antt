use Rattle.std.proofs.Common.{rules, sym, ◌∙◌, ap}
use Rattle.langtag_scan.specs.Subtags.{segments_left}
use Rattle.langtag_scan.proofs.SubtagLists.{segments_left-first}
use Rattle.langtag_scan.proofs.subtags.SubtagsIterator.next.Goals as goal

pub returns : goal.returns
returns c =
    let first =
    sym c.self.view_is ∙ ap segments_left c.in_ok-self.was ∙ segments_left-first _ _ c.split_first.result.1 c.split_first.ensures.hyphen_free c.split_first.ensures.joined in
    record { steps = first; goes = rw first (search rules) }
