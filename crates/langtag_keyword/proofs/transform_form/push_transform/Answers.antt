use Rattle.langtag_keyword.proofs.Common.{◌∷◌, [], pushes_both, subtags, keywords_form, language_form, transform_form, transform_value, before_key, is_field_key}
use Rattle.langtag_keyword.proofs.transform_form.push_transform.Goals as goal

pub returns : goal.returns
returns c =
    let ss = subtags c.args.text.now in
    pushes_both ((116 ∷ []) ∷ []) (transform_form ss) _ _ _ c.push_subtag.ensures
    (pushes_both (language_form (before_key is_field_key ss)) (keywords_form is_field_key transform_value ss) _ _ _ c.push_transform_language.ensures c.push_keywords.ensures)
