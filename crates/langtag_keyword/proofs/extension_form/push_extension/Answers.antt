use Rattle.langtag_keyword.proofs.ExtensionsPut.{extension-pushed}
use Rattle.std.proofs.lemmas.Grind.{common_steps}
use Rattle.langtag_keyword.proofs.Common.{false, sym, ap, ◌∙◌, arith, pushes_same, extension_flat}
use Rattle.langtag_keyword.proofs.KeywordLaws.{form_tested}
use Rattle.langtag_keyword.proofs.extension_form.push_extension.Goals as goal

pub returns-then-is_first : goal.returns-then-is_first
returns-then-is_first c = grind (arith, common_steps, form_tested, c.is_first.ensures, c.if-is_first.true, c.subtags_of.ensures.subtags, c.push_unicode.ensures)

pub returns-then-is_first_transform : goal.returns-then-is_first_transform
returns-then-is_first_transform c =
    grind (arith, common_steps, form_tested, c.is_first.ensures, c.if-is_first.false, c.is_first_transform.ensures, c.if-is_first_transform.true, c.subtags_of-then-is_first_transform.ensures.subtags, c.push_transform.ensures)

pub returns : goal.returns
returns c = λ e spells.
    let is = form_tested c.args.after_u c.args.after_t false false e (sym (c.is_first.ensures e spells) ∙ c.if-is_first.false) (sym (c.is_first_transform.ensures e spells) ∙ c.if-is_first_transform.false) in
    pushes_same (extension_flat e) _ _ _ (sym (ap extension_flat is)) (extension-pushed e _ _ _ _ spells c.as_bytes.ensures c.push_subtag.ensures)
