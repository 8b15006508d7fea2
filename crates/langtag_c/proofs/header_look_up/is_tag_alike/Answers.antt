use Rattle.std.proofs.Common.{sym, ◌∙◌}
use Rattle.langtag_c.proofs.LookUps.{alike_else, alike_then}
use Rattle.langtag_c.proofs.header_look_up.is_tag_alike.Goals as goal

pub returns-then-case_insensitive_eq : goal.returns-then-case_insensitive_eq
returns-then-case_insensitive_eq c =
    c.is_some.ensures
    ∙ alike_then c.args.bytes.now c.args.text.now c.bytes_in.result.now c.args.span c.bytes_in.ensures.bytes c.tag_in.result c.tag_in.ensures (sym c.case_insensitive_eq.ensures.test ∙ c.if-case_insensitive_eq.true)

pub returns-else-case_insensitive_eq : goal.returns-else-case_insensitive_eq
returns-else-case_insensitive_eq c =
    c.if-case_insensitive_eq.false
    ∙ alike_else c.args.bytes.now c.args.text.now c.bytes_in.result.now c.args.span c.bytes_in.ensures.bytes (sym c.case_insensitive_eq.ensures.test ∙ c.if-case_insensitive_eq.false)
