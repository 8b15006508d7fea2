use Rattle.std.proofs.Common.{◌∷◌, sym, ap, ◌∙◌}
use Rattle.langtag_language.specs.Text.{primary_language_text, extended_lang_tag_text}
use Rattle.langtag_fields.specs.Fields.{preferred_language}
use Rattle.langtag_canonical.proofs.ReplacedSubtags.{other_stays, stays_without, language_settled}
use Rattle.langtag_canonical.proofs.canonical_language.is_canonical_language.Goals as goal

pub returns : goal.returns
returns c = λ primary extended spells.
    let extlang = extended_lang_tag_text c.in-Some.extlang in
    other_stays primary extlang extended c.is_none-2.result
    (sym (c.extension_subtags-extlangs.ensures.members primary extended spells) ∙ c.in-Some.ensures.steps ∙ ap (λ rest. extlang ∷ rest) c.in-None.ensures.steps.0)
    (sym c.is_registered_extlang.ensures ∙ c.if-is_registered_extlang.false)
    (stays_without primary_language_text preferred_language language_settled c.preferred_language-2.result primary c.is_none-2.result
    (c.preferred_language-2.ensures ∙ ap preferred_language (c.primary-2.ensures.member primary extended spells)) c.is_none-2.ensures)
