use Rattle.std.proofs.Common.{get_or, sym, subst, arith, ◌∙◌, ◌<◌}
use Rattle.langtag_c.proofs.ChoiceLaws.{current_count, current_entry, entry_form, no_entry}
use Rattle.langtag_c.proofs.prepare.PreparedTagsTagList.form_at.Goals as goal

pub returns : goal.returns
returns c = λ form is tag there.
    let text = c.args.self.now.text.now in
    let tags = c.args.self.now.tags.now in
    let inside = subst (λ n. c.args.index < n) (current_count text tags) c.requires in
    let here = sym (current_entry text tags c.args.index no_entry inside) ∙ there in
    let kept = entry_form text (get_or tags c.args.index no_entry) tag here in
    grind (arith, kept, is)
