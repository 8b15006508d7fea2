use Rattle.std.proofs.Common.{Some, None, true, false, ap, sym, ◌∙◌}
use Rattle.std.proofs.lemmas.Bool.{false≢true}
use Rattle.langtag_scan.specs.Case.{are_alike}
use Rattle.langtag_keyword.proofs.Aliases.{group-first}
use Rattle.langtag_keyword.proofs.alias.key_alias_for.Goals as goal

pub returns-in-Some : goal.returns-in-Some
returns-in-Some c =
    group-first _ _ c.args.key.now c.args.text.now true (Some c.in-Some.new.now) c.in-len1-up.len_at_least
    (ap (λ t. are_alike t c.args.key.now) (sym c.as_bytes.ensures.value) ∙ sym c.if-case_insensitive_eq.ensures.test) (λ is. sym c.in-Some.ensures) ∙ c.loop-rows.invariant

pub loop-rows-preserved-in_default-alias_for : goal.loop-rows-preserved-in_default-alias_for
loop-rows-preserved-in_default-alias_for c =
    group-first _ _ c.args.key.now c.args.text.now true None c.in-len1-up.len_at_least
    (ap (λ t. are_alike t c.args.key.now) (sym c.as_bytes.ensures.value) ∙ sym c.if-case_insensitive_eq.ensures.test) (λ is. sym c.in_default-alias_for.ensures) ∙ c.loop-rows.invariant

pub loop-rows-preserved : goal.loop-rows-preserved
loop-rows-preserved c =
    group-first _ _ c.args.key.now c.args.text.now false None c.in-len1-up.len_at_least
    (ap (λ t. are_alike t c.args.key.now) (sym c.as_bytes.ensures.value) ∙ sym c.if-case_insensitive_eq.ensures.test) (λ is. absurd (false≢true is)) ∙ c.loop-rows.invariant
