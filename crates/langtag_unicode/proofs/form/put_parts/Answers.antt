use Rattle.langtag_keyword.specs.Form.{extensions_record}
use Rattle.langtag_keyword.proofs.Common.{false, sym, ◌∙◌, rules, forms_after}
use Rattle.langtag_keyword.proofs.KeywordLaws.{parts_put}
use Rattle.langtag_unicode.proofs.form.put_parts.Goals as goal

pub returns : goal.returns
unfolding extensions_record
returns c = λ r spells.
    let these = c.push_extensions.ensures r.extensions (record { members = spells.0.extensions; joined = sym (c.extensions.ensures.part r spells) }) in
    let private_use = c.push_private_use.ensures r.private_use (c.private_use.ensures.part r spells) in
    let has = parts_put r spells.0 (forms_after false false r.extensions) _ _ _ _ (c.push_head.ensures r spells) these private_use _ c.new-out.ensures in
    record { counted = c.len.ensures ∙ has.counted; written = λ fits. search (rules, has.same_buffer, has.written fits) }
