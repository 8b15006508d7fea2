use Rattle.langtag_keyword.proofs.Common.{◌∷◌, ◌++◌, [], ap, ◌∙◌, pushes_both, pushes_same, one_flat, segments_left}
use Rattle.langtag_text.specs.Fields.{Fields, subtag_of}
use Rattle.langtag_cldr.specs.Texts.{field_texts}
use Rattle.langtag_locale.specs.LocaleForm.{identifier_form, variants_form}
use Rattle.langtag_keyword.specs.Identifier.{identifier_flat}
use Rattle.langtag_locale.proofs.locale_extensions.push_identifier.Goals as goal

pub returns : goal.returns
returns c =
    let vs = segments_left c.args.variants in
    let form : Fields = field_texts c.identifier_form-form.result in
    let script = one_flat (subtag_of form.script) in
    let region = one_flat (subtag_of form.region) in
    let variants = variants_form c.language_replaced-replaced.result.language.now vs in
    pushes_same (identifier_flat form variants) _ _ _
    (ap (λ f. identifier_flat f variants) (c.identifier_form-form.ensures (field_texts c.args.fields) c.language_replaced-replaced.ensures) ∙ ap (λ f. identifier_flat (identifier_form vs (field_texts c.args.fields)) (variants_form f.language vs)) c.language_replaced-replaced.ensures)
    (pushes_both (form.language ∷ []) (script ++ (region ++ variants)) _ _ _ c.push_subtag.ensures
    (pushes_both script (region ++ variants) _ _ _ c.push_field.ensures (pushes_both region variants _ _ _ c.push_field-2.ensures c.push_variants.ensures)))
