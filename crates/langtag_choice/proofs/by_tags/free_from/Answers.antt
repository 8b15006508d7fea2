use Rattle.langtag_scan.proofs.Prelude.{◌≡◌, ◌+◌, ℕ, true, false, arith, nat_tests, nat_lt, and_parts, sym, ◌∙◌, get_or, rules}
use Rattle.langtag_choice.specs.Found.{is_tag_at}
use Rattle.langtag_choice.specs.Remaining.{without_all}
use Rattle.langtag_choice.proofs.SuitableTags.{none_left_refused, tag_there, tag_unrefused}
use Rattle.langtag_choice.proofs.by_tags.free_from.Goals as goal

pub clear_refused-requires : goal.clear_refused-requires
clear_refused-requires g c κs =
    let texts = g.T.TagList.texts c.args.tags.now in
    let tags = λ (k : ℕ) (set : get_or c.not_chosen-free.result k false ≡ true).
    tag_there texts c.args.chosen.now (c.args.start + k)
    (and_parts (nat_lt k 64) (is_tag_at (without_all texts c.args.chosen.now) (c.args.start + k)) (sym (c.not_chosen-free.ensures k) ∙ set)).1 in
    search (rules, tags)

pub returns-then-has_zero : goal.returns-then-has_zero
returns-then-has_zero g c = λ k.
    let elements = g.R.RangeList.elements c.args.ranges in
    let texts = g.T.TagList.texts c.args.tags.now in
    let chosen = c.args.chosen.now in
    grind (arith, nat_tests, c.clear_refused.ensures k, c.not_chosen-free.ensures k, tag_unrefused elements texts chosen (c.args.start + k))

pub returns-else-has_zero : goal.returns-else-has_zero
returns-else-has_zero g c = λ k.
    let none : c.args.has_zero ≡ false = c.if-has_zero.false in
    grind (arith, nat_tests, c.not_chosen-free.ensures k, none_left_refused (g.R.RangeList.elements c.args.ranges) (g.T.TagList.texts c.args.tags.now) c.args.chosen.now (c.args.start + k) (sym c.requires.zero ∙ none))
