use Rattle.langtag_keyword.proofs.Common.{map, refl, sym, ap, pushes_ended, pushes_next, pushes_same, fold_text}
use Rattle.langtag_keyword.proofs.alphabet.push_each_lowercase.Goals as goal

pub loop-subtag-preserved : goal.loop-subtag-preserved
loop-subtag-preserved c = record {
  can_next = tt;
  is_finite = tt;
  so_far = λ new these.
      c.loop-subtag.invariant.so_far new
      (pushes_same _ _ _ new (sym (ap (map fold_text) c.in-Some.ensures.steps))
      (pushes_next _ (fold_text c.in-Some.subtag.now) (map fold_text c.next.new.self) _ _ new refl c.push_lowercase.ensures these));
}

pub returns : goal.returns
returns c = c.loop-subtag.invariant.so_far _ (pushes_ended _ _ (ap (map fold_text) c.in-None.ensures.steps.0))
