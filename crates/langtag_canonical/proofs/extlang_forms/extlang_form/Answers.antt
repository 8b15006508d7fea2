use Rattle.std.proofs.Common.{refl, sym, ◌∙◌}
use Rattle.langtag.specs.Text.{lang_tag_buf_text}
use Rattle.langtag_canonical.proofs.ExtlangForms.{normal_form}
use Rattle.langtag_canonical.proofs.extlang_forms.extlang_form.Goals as goal

pub returns-in_ok-with_prefix-in-Ok : goal.returns-in_ok-with_prefix-in-Ok
returns-in_ok-with_prefix-in-Ok c =
    normal_form _ (lang_tag_buf_text c.in_ok-canonical.field-0) _ c.in_ok-canonical.ensures.canonical (c.in-Ok.ensures.accepts.0 refl) (λ r spells.
    c.into_lang_tag.ensures.same_text ∙ sym (c.in_ok-with_prefix-in-Ok.ensures r (spells.0, spells.1 ∙ sym c.in-Ok.ensures.same_text)).1)
