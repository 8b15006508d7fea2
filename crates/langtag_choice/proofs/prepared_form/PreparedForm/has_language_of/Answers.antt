use Rattle.std.proofs.Common.{sym, ◌∙◌}
use Rattle.std.proofs.lemmas.Bool.{eqb-true}
use Rattle.langtag_cldr.specs.Matching.{matching_form}
use Rattle.langtag_range.specs.Listed.{basic_text}
use Rattle.langtag_choice.proofs.FarTags.{one_language}
use Rattle.langtag_choice.proofs.PreparedForms.{number_kept}
use Rattle.langtag_choice.proofs.prepared_form.PreparedForm.has_language_of.Goals as goal

pub returns-then-self-ne0 : goal.returns-then-self-ne0
returns-then-self-ne0 c = λ same tag prepared.
    let own = c.in-Some.own in
    one_language own.number c.from.result (matching_form (basic_text c.args.wish.now.range.now)) (matching_form tag)
    (c.args.wish.now.number own c.in-Some.is) (number_kept tag c.args.self.now c.from.result prepared c.if-self-ne0.true c.from.ensures) (λ zero. c.if-self-ne0.true (sym c.from.ensures ∙ zero)) (eqb-true own.number c.from.result same)
