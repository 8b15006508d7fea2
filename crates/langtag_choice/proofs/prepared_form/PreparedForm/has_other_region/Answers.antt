use Rattle.langtag_scan.proofs.Prelude.{option_map, sym, ap, ◌∙◌, not-true}
use Rattle.langtag_scan.specs.Grammar.{are_alike}
use Rattle.langtag_cldr.specs.Texts.{field_texts}
use Rattle.langtag_range.specs.Listed.{basic_text}
use Rattle.langtag_choice.proofs.PreparedForms.{region_apart}
use Rattle.langtag_choice.proofs.prepared_form.PreparedForm.has_other_region.Goals as goal

pub returns-then-self-ne0 : goal.returns-then-self-ne0
returns-then-self-ne0 c = λ yes tag prepared.
    let form = c.in-Some.form in
    region_apart (basic_text c.args.wish.now.range.now) tag c.args.self.now (field_texts form) (sym c.args.wish.now.known ∙ ap (option_map field_texts) c.in-Some.is) prepared c.if-self-ne0.true
    (ap (are_alike form.region.now) (sym c.name.ensures) ∙ sym c.case_insensitive_eq.ensures.test ∙ not-true c.case_insensitive_eq.result yes)
