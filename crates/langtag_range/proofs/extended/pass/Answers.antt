use Rattle.std.proofs.Common.{◌≡◌, true, false, rules, tests}
use Rattle.langtag_scan.specs.Grammar.{are_alike, is_single}
use Rattle.langtag_range.proofs.Among.{walk_found, walk_left, walk_blocked, walk_ended}
use Rattle.langtag_range.proofs.extended.pass.Goals as goal

pub returns-then-case_insensitive_eq-clause-found : goal.returns-then-case_insensitive_eq-clause-found
returns-then-case_insensitive_eq-clause-found c = λ _ more.
    let alike : are_alike c.args.wanted.now c.in-Some.subtag.now ≡ true = search rules in
    walk_found _ _ _ _ _ more c.in-Some.ensures.steps (c.loop-subtag.invariant.same more) alike

pub returns-then-subtag-eq1-clause-missed : goal.returns-then-subtag-eq1-clause-missed
returns-then-subtag-eq1-clause-missed c = λ _ more.
    let other : are_alike c.args.wanted.now c.in-Some.subtag.now ≡ false = search rules in
    let single : is_single c.in-Some.subtag.now ≡ true = search (rules, tests) in
    walk_blocked _ _ _ _ _ more c.in-Some.ensures.steps (c.loop-subtag.invariant.same more) other single

pub loop-subtag-preserved : goal.loop-subtag-preserved
loop-subtag-preserved c = record {
  can_next = tt;
  is_finite = tt;
  same = λ more.
      let other : are_alike c.args.wanted.now c.in-Some.subtag.now ≡ false = search rules in
      let many : is_single c.in-Some.subtag.now ≡ false = search (rules, tests) in
      walk_left _ _ _ _ _ more c.in-Some.ensures.steps (c.loop-subtag.invariant.same more) other many;
}

pub returns-clause-missed : goal.returns-clause-missed
returns-clause-missed c = λ _ more. walk_ended _ _ _ more c.in_default.ensures.steps.0 (c.loop-subtag.invariant.same more)
