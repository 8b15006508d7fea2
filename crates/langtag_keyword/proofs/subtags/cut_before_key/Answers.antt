use Rattle.langtag_keyword.proofs.Common.{◌-◌, ap, ◌∙◌, opens_keyword}
use Rattle.langtag_keyword.proofs.SubtagTexts.{boundary-before_key}
use Rattle.langtag_keyword.proofs.subtags.cut_before_key.Goals as goal

pub range-requires-clause-end_boundary : goal.range-requires-clause-end_boundary
range-requires-clause-end_boundary c =
    boundary-before_key (opens_keyword c.args.keys) c.args.text.now c.saturating_sub.result c.utf8.text (c.saturating_sub.ensures ∙ ap (λ n. n - 1) c.len_before_key-len.ensures)
