use Rattle.std.proofs.Common.{◌≡◌, ◌∷◌, [], unwrap_or, refl, sym, ap, ◌∙◌}
use Rattle.langtag_language.specs.Text.{language_text, primary_language_text, extended_lang_tag_text}
use Rattle.langtag_scan.specs.Case.{fold_text}
use Rattle.langtag_canonical.specs.Canonical.{canonical_language}
use Rattle.langtag_fields.specs.Fields.{preferred_language}
use Rattle.langtag_canonical.proofs.ReplacedSubtags.{several_pushed, extlang_pushed, other_pushed, view_of}
use Rattle.langtag_text.proofs.Pushed.{pushes_same}
use Rattle.langtag_canonical.proofs.canonical_parts.push_canonical_language.Goals as goal

pub returns-in_default-next : goal.returns-in_default-next
returns-in_default-next c = λ primary extended spells.
    several_pushed primary (extended_lang_tag_text c.in-Some.extlang) (extended_lang_tag_text c.in_default-next.field-0) extended _ (language_text c.args.language) _ _ spells.first
    (sym (c.extension_subtags-extlangs.ensures.members primary extended spells) ∙ c.in-Some.ensures.steps
    ∙ ap (λ rest. extended_lang_tag_text c.in-Some.extlang ∷ rest) c.in_default-next.ensures.steps)
    spells.joined (pushes_same _ _ _ _ (ap (λ t. t ∷ []) c.as_bytes-in_default-next.ensures) c.push_subtag-in_default-next.ensures)

pub returns-then-is_registered_extlang : goal.returns-then-is_registered_extlang
returns-then-is_registered_extlang c = λ primary extended spells.
    let extlang = extended_lang_tag_text c.in-Some.extlang in
    extlang_pushed primary extlang extended (canonical_language (fold_text extlang)) _ _
    (sym (c.extension_subtags-extlangs.ensures.members primary extended spells) ∙ c.in-Some.ensures.steps ∙ ap (λ rest. extlang ∷ rest) c.in-None.ensures.steps.0)
    (sym c.is_registered_extlang.ensures ∙ c.if-is_registered_extlang.true) refl c.push_extlang.ensures

pub returns : goal.returns
returns c = λ primary extended spells.
    let extlang = extended_lang_tag_text c.in-Some.extlang in
    let here = c.primary-primary.ensures.member primary extended spells in
    let value : c.as_bytes-2.result.now ≡ unwrap_or (preferred_language primary) primary = cc (here, view_of primary_language_text c.preferred_language-2.result c.primary-primary.result) in
    other_pushed primary c.as_bytes-2.result.now extlang extended _ _ _
    (sym (c.extension_subtags-extlangs.ensures.members primary extended spells) ∙ c.in-Some.ensures.steps ∙ ap (λ rest. extlang ∷ rest) c.in-None.ensures.steps.0)
    (sym c.is_registered_extlang.ensures ∙ c.if-is_registered_extlang.false) value c.push_subtag-2.ensures
    (pushes_same _ _ _ _ (ap (λ t. t ∷ []) c.as_bytes-3.ensures) c.push_subtag-3.ensures)
