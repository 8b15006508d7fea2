use Rattle.std.proofs.Common.{sym, subst, ◌∙◌, ◌<◌}
use Rattle.langtag_c.proofs.ChoiceLaws.{current_count, current_entry, no_entry}
use Rattle.langtag_c.proofs.prepare.PreparedTagsTagList.tag_at.Goals as goal

pub returns : goal.returns
returns c =
    let text = c.args.self.now.text.now in
    let tags = c.args.self.now.tags.now in
    let inside = subst (λ n. c.args.index < n) (current_count text tags) c.requires in
    c.current_in.ensures ∙ sym (current_entry text tags c.args.index no_entry inside)
