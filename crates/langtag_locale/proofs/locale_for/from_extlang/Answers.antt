use Rattle.langtag_keyword.proofs.Common.{◌≡◌, inl, sym, ap, ◌∙◌, arith, common_steps, is_extended}
use Rattle.langtag_language.specs.Text.{extended_lang_tag_text}
use Rattle.langtag.proofs.PartRules.{language_spelled}
use Rattle.langtag_scan.specs.Tag.{IsNormal, IsTag}
use Rattle.langtag_locale.specs.LocaleForm.{extlang_replaced}
use Rattle.langtag_locale.proofs.WholeLaws.{rest_boundary, rest_spelled}
use Rattle.langtag_locale.proofs.locale_for.from_extlang.Goals as goal

pub range_from-requires : goal.range_from-requires
unfolding IsNormal
range_from-requires c _ =
    let (r, spells) = c.as_str-3.ensures.in_class in
    let here = spells.1 ∙ c.as_str-3.ensures.same_text in
    let language = language_spelled r _ spells.0 (c.language-language.ensures.part r (spells.0, here)) in
    let extension = c.in_ok-extension.ensures.members r.primary r.extended language in
    let primary = c.as_str-2.ensures.same_text ∙ c.primary.ensures.member r.primary r.extended language in
    let class = sym c.new.ensures.accepts ∙ sym c.in_ok-extlang.ensures.variant in
    rest_boundary r _ _ _ spells extension (sym (ap is_extended c.as_str.ensures.same_text) ∙ class) primary c.as_str-3.utf8

pub from_checked-requires : goal.from_checked-requires
unfolding IsNormal IsTag
from_checked-requires c =
    let (r, spells) = c.as_str-3.ensures.in_class in
    let here = spells.1 ∙ c.as_str-3.ensures.same_text in
    let language = language_spelled r _ spells.0 (c.language-language.ensures.part r (spells.0, here)) in
    let extension = c.in_ok-extension.ensures.members r.primary r.extended language in
    let primary = c.as_str-2.ensures.same_text ∙ c.primary.ensures.member r.primary r.extended language in
    let class = sym c.new.ensures.accepts ∙ sym c.in_ok-extlang.ensures.variant in
    let text : extended_lang_tag_text c.in_ok-extlang.extlang ≡ c.as_str.result.now = grind (arith, common_steps) in
    let known = sym c.is_registered_extlang.ensures ∙ c.if-not-is_registered_extlang.false in
    inl
    (extlang_replaced r, rest_spelled r _ _ _ _ _ spells extension (text ∙ c.as_str.ensures.same_text) (ap is_extended text ∙ class) known primary c.range_from.ensures.value)

pub returns-clause-some : goal.returns-clause-some
returns-clause-some c = λ r spells.
    let here = spells.1 ∙ sym c.as_str-3.ensures.same_text in
    let language = language_spelled r _ spells.0 (c.language-language.ensures.part r spells) in
    let extension = c.in_ok-extension.ensures.members r.primary r.extended language in
    let primary = c.as_str-2.ensures.same_text ∙ c.primary.ensures.member r.primary r.extended language in
    let class = sym c.new.ensures.accepts ∙ sym c.in_ok-extlang.ensures.variant in
    let text : extended_lang_tag_text c.in_ok-extlang.extlang ≡ c.as_str.result.now = grind (arith, common_steps) in
    let known = sym c.is_registered_extlang.ensures ∙ c.if-not-is_registered_extlang.false in
    rest_spelled r _ _ _ _ _ (spells.0, here) extension (text ∙ c.as_str.ensures.same_text) (ap is_extended text ∙ class) known primary (c.from_checked.ensures ∙ c.range_from.ensures.value)
