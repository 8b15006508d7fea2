use Rattle.langtag_keyword.proofs.Common.{◌∷◌, [], ap, ◌∙◌}
use Rattle.langtag.proofs.PartRules.{variants_listed}
use Rattle.langtag_cldr.specs.Definitions.{known, language_replaced}
use Rattle.langtag_likely.specs.Marked.{as_read}
use Rattle.langtag_locale.specs.LocaleForm.{identifier_form, record_fields}
use Rattle.langtag_locale.proofs.wish.asked_region.Goals as goal

pub returns-clause-region : goal.returns-clause-region
returns-clause-region c = λ r spells.
    let variants = c.nonempty.ensures.segments ∙ variants_listed r c.as_str.result.now spells.0 (c.as_str.ensures.same_text ∙ c.variants.ensures.part r spells) in
    let form = c.identifier_form-form.ensures (record_fields (as_read r)) (c.language_replaced-replaced.ensures ∙ ap language_replaced (c.fields_of.ensures r spells)) in
    c.known.ensures ∙ ap (known (90 ∷ 90 ∷ [])) (ap (λ f. f.region) form ∙ ap (λ vs. (identifier_form vs (record_fields (as_read r))).region) variants)
