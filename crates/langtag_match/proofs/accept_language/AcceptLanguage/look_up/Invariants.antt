use Rattle.std.proofs.Common.{◌≡◌, drop}
use Rattle.langtag_match.specs.AcceptLanguage.{range_texts}
use Rattle.langtag_match.specs.LookUp.{choice}
use Rattle.langtag_match.proofs.accept_language.AcceptLanguage.look_up.Given as goal

abbrev pub invariant-loop-weighted : goal.invariant-loop-weighted
invariant-loop-weighted l =
    choice l.tags l.default (range_texts (drop l.weighted-index l.weighted-items)) ≡ choice l.tags l.default (range_texts l.weighted-items)
