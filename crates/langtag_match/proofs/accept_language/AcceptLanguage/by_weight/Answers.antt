use Rattle.langtag_scan.proofs.Prelude.{nat_lt, rules, tests, answers_always}
use Rattle.std.proofs.lemmas.List.Elements.{filter_from_retain}
use Rattle.langtag_match.proofs.Readings.{IsByWeight-sorted}
use Rattle.langtag_match.proofs.accept_language.AcceptLanguage.by_weight.Goals as goal

pub returns : goal.returns
returns c =
    let kept = filter_from_retain _ (λ weighted. nat_lt 0 weighted.weight) (λ p x b q k. search (rules, tests)) _ _ _ c.retain.ensures.filtered in
    IsByWeight-sorted c.args.elements.items c.retain.new.self.items c.sort_by_key.new.self.items kept c.in_ok-sort_by_key.ensures.permutation
    (c.in_ok-sort_by_key.ensures.sorted (λ w. record { 0 = w.weight }) (answers_always _ _ _ (λ f a r after called. search rules)))
    (c.in_ok-sort_by_key.ensures.stable (λ w. record { 0 = w.weight }) (answers_always _ _ _ (λ f a r after called. search rules)))
