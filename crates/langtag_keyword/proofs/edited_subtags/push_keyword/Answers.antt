use Rattle.langtag_keyword.proofs.Common.{◌∷◌, sym, pushes_ended, pushes_next, pushes_same}
use Rattle.langtag_keyword.proofs.edited_subtags.push_keyword.Goals as goal

pub loop-subtag-preserved : goal.loop-subtag-preserved
loop-subtag-preserved c = record {
  can_next = tt;
  is_finite = tt;
  so_far = λ new these.
      c.loop-subtag.invariant.so_far new
      (pushes_same (c.in-Some.subtag.now ∷ c.next.new.self) c.loop-subtag.subtag-iterator c.loop-subtag.out new (sym c.in-Some.ensures.steps)
      (pushes_next _ c.in-Some.subtag.now c.next.new.self _ _ new c.as_bytes-in-loop-subtag.ensures.value c.push_subtag-in-loop-subtag.ensures these));
}

pub returns : goal.returns
returns c = c.loop-subtag.invariant.so_far _ (pushes_ended _ _ c.in-None.ensures.steps.0)
