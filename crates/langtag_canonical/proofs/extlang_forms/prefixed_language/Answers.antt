use Rattle.std.proofs.Common.{◌≡◌, ◌∷◌, ◌++◌, [], ap, sym, subst, ◌∙◌, append_assoc}
use Rattle.std.specs.String.{string_bytes}
use Rattle.langtag.specs.Definitions.{IsLanguage, language_text, primary_language_text}
use Rattle.langtag_fields.specs.Fields.{extlang_prefix}
use Rattle.langtag_canonical.proofs.ExtlangForms.{prefixed_language, prefixed_becomes}
use Rattle.langtag_canonical.proofs.extlang_forms.prefixed_language.Goals as goal

pub returns-clause-in_class : goal.returns-clause-in_class
returns-clause-in_class c =
    let value = primary_language_text c.in-Some.prefix in
    let whole : string_bytes c.push_str-2.new.self ≡ value ++ 45 ∷ language_text c.args.language = cc (append_assoc value (45 ∷ []) c.as_str-2.result.now, c.in_ok-push_str-2.ensures.bytes, c.in_ok-push_str.ensures.bytes, c.in_ok-text.ensures.ok) in
    prefixed_language value (language_text c.args.language) (string_bytes c.push_str-2.new.self)
    (subst IsLanguage c.as_str-2.ensures.same_text c.as_str-2.ensures.in_class)
    (λ primary extended spells. (
      sym (c.is_full.ensures primary extended spells) ∙ c.if-is_full.false,
      sym (ap extlang_prefix (c.primary.ensures.member primary extended spells)) ∙ sym c.in-Some.ensures,
    ))
    whole

pub returns-clause-becomes : goal.returns-clause-becomes
returns-clause-becomes c = λ primary extended spells.
    let value = primary_language_text c.in-Some.prefix in
    let whole : string_bytes c.push_str-2.new.self ≡ value ++ 45 ∷ language_text c.args.language = cc (append_assoc value (45 ∷ []) c.as_str-2.result.now, c.in_ok-push_str-2.ensures.bytes, c.in_ok-push_str.ensures.bytes, c.in_ok-text.ensures.ok) in
    prefixed_becomes primary value (language_text c.args.language) (string_bytes c.push_str-2.new.self) extended spells
    (sym (c.is_full.ensures primary extended spells) ∙ c.if-is_full.false)
    (sym (ap extlang_prefix (c.primary.ensures.member primary extended spells)) ∙ sym c.in-Some.ensures) whole
