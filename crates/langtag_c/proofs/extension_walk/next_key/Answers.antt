use Rattle.langtag_keyword.proofs.Common.{◌≡◌, ◌≤◌, ◌+◌, ◌-◌, true, false, not, ◌&&◌, [], ◌∷◌, ◌++◌, drop, take, ap, sym, subst, ◌∙◌, arith, length-drop, nat_tests, HasKeys, opens_keyword, is_new_key, keywords_after}
use Rattle.std.proofs.Math.Bool.{and-false}
use Rattle.langtag_keyword.specs.KeySets.{has_key}
use Rattle.langtag_keyword.proofs.KeySetLaws.{is_new-met, met-more, met-none}
use Rattle.langtag_keyword.proofs.SubtagTexts.{keywords-new, take-turn}
use Rattle.langtag_c.specs.Keywords.{subtags_in}
use Rattle.langtag_c.specs.Spans.{span_text}
use Rattle.langtag_c.proofs.ExtensionSpans.{AreSubtags, drop-next, keywords-step, length-subtags_in, up-to}
use Rattle.langtag_c.proofs.extension_walk.next_key.Goals.{else-count-passed-via-then-count-passed+then-has+else-is_new, else-count-passed-via-then-count-passed+else-has, else-count-passed-via-else-count-passed}
use Rattle.langtag_c.proofs.extension_walk.next_key.Goals as goal

pub loop-key-init : goal.loop-key-init
loop-key-init c = grind (arith, nat_tests, c.requires, met-none, c.new-met.ensures)

pub insert-is_new-requires : goal.insert-is_new-requires
insert-is_new-requires c = (subst AreSubtags c.in-Some.ensures.subtags c.loop-key.invariant.some.some).0

pub overflow_add-passed : goal.overflow_add-passed
overflow_add-passed c = grind (arith, nat_tests, length-drop c.loop-key.count (subtags_in c.args.bytes.now c.args.subtags), length-subtags_in)

pub overflow_add-count : goal.overflow_add-count
overflow_add-count c = grind (arith, nat_tests, length-drop c.loop-key.count (subtags_in c.args.bytes.now c.args.subtags), length-subtags_in)

pub returns-then-is_new-clause-some : goal.returns-then-is_new-clause-some
returns-then-is_new-clause-some c =
    let opens = opens_keyword c.args.keys in
    let all = subtags_in c.args.bytes.now c.args.subtags in
    let s = c.in-Some.subtag.now in
    let before = take c.loop-key.count all in
    let fits = (subst AreSubtags c.in-Some.ensures.subtags c.loop-key.invariant.some.some).0 in
    let left = sym c.loop-key.invariant.left ∙ c.in-Some.ensures.subtags in
    let open_new : (opens s && not (has_key c.loop-key.met.seconds s)) ≡ true =
    ap (λ b. b && not (has_key c.loop-key.met.seconds s)) (sym c.has.ensures.is_key ∙ c.if-has.true) ∙ sym c.insert-is_new.ensures.new ∙ c.if-is_new.true in
    let new = keywords-new opens all c.loop-key.count s _ (span_text c.args.bytes.now c.before_key-value.result) left
    (sym (is_new-met c.args.keys c.loop-key.met.seconds before s fits c.loop-key.invariant.met) ∙ open_new) c.before_key-value.ensures.text in
    grind (arith, new, drop-next all c.loop-key.count _ _ left, c.in-Some.ensures.subtags, c.in-Some.ensures.place, c.loop-key.invariant.same c.if-count-passed.true)

pub returns-then-is_new-clause-place : goal.returns-then-is_new-clause-place
returns-then-is_new-clause-place c =
    let text = c.args.bytes.now in
    let all = subtags_in text c.args.subtags in
    let s = c.in-Some.subtag.now in
    let n = c.loop-key.count in
    let seconds = c.loop-key.met.seconds in
    let fits = (subst AreSubtags c.in-Some.ensures.subtags c.loop-key.invariant.some.some).0 in
    let left = sym c.loop-key.invariant.left ∙ c.in-Some.ensures.subtags in
    let open_new : (opens_keyword c.args.keys s && not (has_key seconds s)) ≡ true =
    ap (λ b. b && not (has_key seconds s)) (sym c.has.ensures.is_key ∙ c.if-has.true) ∙ sym c.insert-is_new.ensures.new ∙ c.if-is_new.true in
    let new = sym (is_new-met c.args.keys seconds (take n all) s fits c.loop-key.invariant.met) ∙ open_new in
    let back : n + 1 - 1 ≡ n = omega arith in
    let key = up-to text c.loop-key.rest c.in-Some.key.start (drop n all) c.loop-key.invariant.some.within c.loop-key.invariant.left c.in-Some.ensures.start ∙ c.loop-key.invariant.ends in
    let value = up-to text c.take_subtag.new.rest c.before_key-value.result.start (drop (n + 1) all) c.in-Some.ensures.left.within (drop-next all n s _ left) c.before_key-value.ensures.start
    ∙ c.in-Some.ensures.end ∙ c.loop-key.invariant.ends in
    (rw (back, c.in-Some.ensures.place.1) new, rw back key, value)

pub loop-key-preserved : goal.loop-key-preserved
loop-key-preserved c =
    let opens = opens_keyword c.args.keys in
    let all = subtags_in c.args.bytes.now c.args.subtags in
    let s = c.in-Some.subtag.now in
    let seconds = c.loop-key.met.seconds in
    let before = take c.loop-key.count all in
    let fits = (subst AreSubtags c.in-Some.ensures.subtags c.loop-key.invariant.some.some).0 in
    let left = sym c.loop-key.invariant.left ∙ c.in-Some.ensures.subtags in
    let is = is_new-met c.args.keys seconds before s fits c.loop-key.invariant.met in
    let closed : c.loop-key.passed ≤ c.loop-key.count → is_new_key opens before s ≡ false =
    elim c.else-count-passed.branch [
      | else-count-passed-via-then-count-passed+then-has+else-is_new w ↦ λ few.
          sym is ∙ ap (λ b. opens s && b) (sym c.insert-is_new.ensures.new ∙ w.if-is_new.false) ∙ and-false (opens s)
      | else-count-passed-via-then-count-passed+else-has w ↦ λ few.
          sym is ∙ ap (λ b. b && not (has_key seconds s)) (sym w.has.ensures.is_key ∙ w.if-has.false)
      | else-count-passed-via-else-count-passed w ↦ λ few. absurd (omega (arith, few, w.if-count-passed.false))
    ] in
    record {
      some = c.in-Some.ensures.left;
      ends = c.in-Some.ensures.end ∙ c.loop-key.invariant.ends;
      left = drop-next all c.loop-key.count s _ left;
      met =
          subst (HasKeys c.insert-is_new.new.self.seconds) (take-turn all c.loop-key.count s _ left)
          (subst (λ rows. HasKeys rows (before ++ s ∷ [])) (sym c.insert-is_new.ensures.added) (met-more seconds before s fits c.loop-key.invariant.met));
      same = keywords-step opens all c.loop-key.count c.loop-key.passed c.args.passed.now s _ left c.loop-key.invariant.kept closed
          (λ few. ap (keywords_after opens before) (sym c.in-Some.ensures.subtags) ∙ c.loop-key.invariant.same few);
      kept = c.loop-key.invariant.kept;
    }
