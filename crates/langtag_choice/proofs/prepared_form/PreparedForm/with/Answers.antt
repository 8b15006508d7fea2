use Rattle.std.proofs.Common.{◌==◌, [], ◌∷◌, sym, refl, arith}
use Rattle.langtag_cldr.specs.Texts.{field_texts}
use Rattle.langtag_choice.specs.declared.prepared_form.PreparedForm.{PreparedForm}
use Rattle.langtag_cldr.proofs.FieldClasses.{language_alphanumeric, language_letters, region_alphanumeric, region_length, script_alphanumeric, script_length}
use Rattle.langtag_choice.proofs.PreparedForms.{form_is_kept, or_second, language_counted, region_counted, script_counted}
use Rattle.langtag_choice.proofs.prepared_form.PreparedForm.with.Goals as goal

pub returns-clause-kept : goal.returns-clause-kept
returns-clause-kept c = λ short.
    let form = c.args.form in
    let letters = c.args.letters in
    let kept : PreparedForm = record {
      number = c.language_number.result;
      letters = letters.0 ∷ letters.1 ∷ [];
      language = c.filled_language.result;
      unlikely = c.unlikely_form.result;
      script = c.filled.result;
      region = c.filled-2.result;
    } in
    form_is_kept (field_texts form) letters.0 letters.1 kept short (language_letters form.language.now form.language_class) (sym c.language_number.ensures.number) refl
    (c.filled_language.ensures (language_alphanumeric form.language.now form.language_class) (language_counted form.language.now form.language_class) short)
    (c.filled.ensures (script_alphanumeric form.script.now form.script_class) (script_counted form.script.now form.script_class) (script_length form.script.now form.script_class))
    (c.filled-2.ensures (region_alphanumeric form.region.now form.region_class) (region_counted form.region.now form.region_class) (region_length form.region.now form.region_class))
    (sym c.unlikely_form.ensures)

pub returns-clause-prepared : goal.returns-clause-prepared
returns-clause-prepared c = or_second (c.language_number.result == 0) _ (returns-clause-kept c (omega arith))
