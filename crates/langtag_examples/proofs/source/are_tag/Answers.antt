use Rattle.std.specs.Prelude.{◌↔◌, ◌++◌, IsTrue, is_some}
use Rattle.std.proofs.Common.{subst, sym}
use Rattle.langtag_scan.specs.Grammar.{IsTag}
use Rattle.langtag_examples.proofs.source.are_tag.Goals as goal

pub returns : goal.returns
returns c =
    let accepts = subst (λ text. IsTrue (is_some c.recognise.result) ↔ IsTag text) c.new.ensures.bytes c.recognise.ensures.accepts in
    subst (λ found. IsTrue found ↔ IsTag (c.args.first.now ++ c.args.second.now)) (sym c.is_some.ensures) accepts
