use Rattle.langtag_scan.proofs.Prelude.{◌≡◌, eqb_tells, ◌+◌, ◌<◌, arith, sym, subst, get_or, rules, true, false, []}
use Rattle.langtag_choice.specs.Refusals.{IsLongestBefore, nothing_read}
use Rattle.langtag_choice.proofs.Refusals.{all_none, entry_there, next_read, refused_at}
use Rattle.std.proofs.lemmas.Grind.{get_or-set_at}
use Rattle.std.proofs.lemmas.List.{get_or-set_other}
use Rattle.langtag_choice.proofs.by_tags.clear_refused.Goals.{then-is_refused, else-is_refused}
use Rattle.langtag_choice.proofs.by_tags.clear_refused.Goals as goal

pub loop-range-init : goal.loop-range-init
loop-range-init g c = λ k tag set there. all_none 64 k c.none-longest.result (g.R.RangeList.elements c.args.ranges) tag (c.none-longest.ensures _ tag)

pub loop-range-preserved : goal.loop-range-preserved
loop-range-preserved g c = c.read_for_refusals.ensures (g.R.RangeList.elements c.args.ranges) _ (next_read _ _ _ _ _ _ _ _ (search rules) c.loop-range.invariant)

pub loop-offset-preserved : goal.loop-offset-preserved
loop-offset-preserved g c =
    let elements = g.R.RangeList.elements c.args.ranges in
    let texts = g.T.TagList.texts c.args.tags.now in
    let free = c.loop-offset.free in
    let offset = c.loop-offset.offset in
    let start = c.args.start in
    let within : offset < 64 = c.loop-offset-test.true in
    let done : g.R.RangeList.elements c.loop-range.left ≡ [] = c.in_default.ensures.first in
    let told = λ (set : get_or c.args.free.now offset false ≡ true).
    refused_at elements texts (start + offset) c.is_refused.result (c.requires.tags offset set) (λ tag here.
    c.is_refused.ensures elements tag
    (subst (IsLongestBefore elements [] tag) (sym c.lengths_at.ensures)
    (subst (λ left. IsLongestBefore elements left tag (get_or c.loop-range.longest offset nothing_read)) done
    (c.loop-range.invariant offset tag set (entry_there texts (start + offset) tag here))))) in
    elim c.if-is_refused.branch [
      | then-is_refused w ↦ rw w.free-is (record {
        long = search (rules, c.loop-offset.invariant.long);
        before = λ k below.
            let long = c.loop-offset.invariant.long in
            grind (arith, get_or-set_other, get_or-set_at, c.loop-offset.invariant.before k, long, told, eqb_tells k offset);
        after = λ k past. grind (arith, get_or-set_other, c.loop-offset.invariant.after k);
      })
      | else-is_refused w ↦ rw w.free-is (record {
        long = c.loop-offset.invariant.long;
        before = λ k below.
            grind (arith, c.loop-offset.invariant.before k, c.loop-offset.invariant.after k, told, eqb_tells k offset);
        after = λ k past. c.loop-offset.invariant.after k (omega (arith, past));
      })
    ]
