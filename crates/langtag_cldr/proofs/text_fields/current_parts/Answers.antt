use Rattle.langtag_scan.proofs.Prelude.{option_map, sym, ap, ◌∙◌}
use Rattle.langtag_cldr.proofs.WholeTags.{current_some}
use Rattle.langtag_cldr.proofs.text_fields.current_parts.Goals as goal

pub returns-in-Some : goal.returns-in-Some
returns-in-Some c =
    let parts = c.split_at_either-in-Some.result in
    current_some c.args.text.now c.in-Some.tag.now parts.0.now parts.1.now (sym c.replacement.ensures ∙ ap (option_map (λ tag. tag.now)) c.in-Some.is)
    c.split_at_either-in-Some.ensures.before c.split_at_either-in-Some.ensures.after
