use Rattle.std.proofs.Common.{None, Some, arith, sym}
use Rattle.langtag.specs.Text.{lang_tag_text}
use Rattle.langtag_c.proofs.TagsAt.{one_tag_at}
use Rattle.langtag_c.proofs.ChoiceLaws.{current_no_tag, current_tag, stale_tag}
use Rattle.langtag_c.proofs.prepare.PreparedTag.current_in.Goals as goal

pub returns-in_default : goal.returns-in_default
returns-in_default c = sym (current_no_tag c.args.text.now c.args.self.now (sym (one_tag_at c.args.text.now c.args.self.now.tag None c.in_default.ensures)))

pub returns-then-is_for : goal.returns-then-is_for
returns-then-is_for c =
    let there = one_tag_at c.args.text.now c.args.self.now.tag (Some (lang_tag_text c.in-Some.tag)) c.in-Some.ensures in
    grind (arith, current_tag c.args.text.now c.args.self.now, there)

pub returns-else-is_for : goal.returns-else-is_for
returns-else-is_for c =
    let there = one_tag_at c.args.text.now c.args.self.now.tag (Some (lang_tag_text c.in-Some.tag)) c.in-Some.ensures in
    grind (arith, stale_tag c.args.text.now c.args.self.now, there)
