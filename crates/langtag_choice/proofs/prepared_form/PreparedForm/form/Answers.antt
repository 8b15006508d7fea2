use Rattle.std.proofs.Common.{option_map, ap, ◌∙◌}
use Rattle.langtag_cldr.specs.Texts.{field_texts}
use Rattle.langtag_choice.proofs.PreparedForms.{form_kept}
use Rattle.langtag_choice.proofs.prepared_form.PreparedForm.form.Goals as goal

pub returns-in-Some-Some-Some : goal.returns-in-Some-Some-Some
returns-in-Some-Some-Some c =
    let kept = c.in-Some-Some-Some in
    λ form is tag prepared.
    form_kept tag c.args.self.now (record { language = kept.language.now; script = kept.script.now; region = kept.region.now }) prepared c.if-self-eq0.false
    (c.language_in.ensures kept.language kept.is-0).0 (c.script_in.ensures kept.script kept.is-1).0 (c.region_in.ensures kept.region kept.is-2).0
    ∙ ap (option_map field_texts) is
