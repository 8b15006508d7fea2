use Rattle.langtag_scan.proofs.Prelude.{sym, subst, ◌∙◌, ◌<◌, get_or}
use Rattle.langtag_c.proofs.ChoiceLaws.{current_count, current_entry, entry_bytes, no_entry}
use Rattle.langtag_c.proofs.prepare.PreparedTagsTagList.bytes_at.Goals as goal

pub returns : goal.returns
returns c = λ tag there.
    let text = c.args.self.now.text.now in
    let tags = c.args.self.now.tags.now in
    let inside = subst (λ n. c.args.index < n) (current_count text tags) c.requires in
    entry_bytes text (get_or tags c.args.index no_entry) c.bytes_in.result.now tag c.bytes_in.ensures.bytes (sym (current_entry text tags c.args.index no_entry inside) ∙ there)
