use Rattle.langtag_scan.proofs.Prelude.{sym, ◌∙◌, not-true}
use Rattle.langtag_choice.proofs.MatchingTables.{far_without_rule}
use Rattle.langtag_choice.proofs.range_language.RangeLanguage.is_far.Goals as goal

pub returns-then-other-self : goal.returns-then-other-self
returns-then-other-self c = λ yes.
    let own = c.args.self.now in
    far_without_rule own.number c.args.other c.requires (λ same. c.if-other-self.true same)
    (own.all_keys c.args.other c.requires (sym c.has_key.ensures ∙ not-true c.has_key.result yes))
