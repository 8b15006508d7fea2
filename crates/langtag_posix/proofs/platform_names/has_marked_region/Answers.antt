use Rattle.langtag_posix.proofs.PosixNameLaws.{marked_by}
use Rattle.langtag_posix.proofs.platform_names.has_marked_region.Goals as goal

pub returns-then-is_short_language : goal.returns-then-is_short_language
returns-then-is_short_language c =
    marked_by c.args.text.now c.split_at_byte.result.0.now c.split_at_byte.result.1.now c.split_at_byte-2.result.0.now c.is_short_language.result c.is_marked.result
    c.split_at_byte.ensures.before c.split_at_byte.ensures.after c.split_at_byte-2.ensures.before c.is_short_language.ensures c.if-is_short_language.true c.is_marked.ensures
