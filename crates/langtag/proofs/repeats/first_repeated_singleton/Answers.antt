use Rattle.langtag_scan.proofs.Prelude.{◌≡◌, true, false, take, length, arith, refl, sym, ap, ◌∙◌, rules, list_any, get_or-replicate, length-set}
use Rattle.langtag_extension.specs.Text.{singleton_byte}
use Rattle.langtag_place.specs.Repeat.{are_alike_bytes}
use Rattle.langtag_place.proofs.RepeatLaws.{IsAt-drop, repeat-found, repeat-later}
use Rattle.langtag.proofs.SingletonRepeats.{next_singleton, singletons, fold_singleton-below, AreFlagsOf-set}
use Rattle.langtag.proofs.repeats.first_repeated_singleton.Goals as goal

pub loop-index-init : goal.loop-index-init
loop-index-init c = record {
  can_next = tt;
  is_finite = tt;
  counter = search rules;
  flags = refl;
  flag = λ es spells k below. get_or-replicate 128 k false false below;
  so_far = λ es spells. refl;
  left = λ es spells. sym (c.iter-extension-items.ensures.list es spells);
}

pub returns-then-seen-byte : goal.returns-then-seen-byte
returns-then-seen-byte c es spells =
    let index = c.loop-index.index in
    let byte = singleton_byte c.singleton.result in
    let below = fold_singleton-below c.unwrap.result c.into_smallcase-byte.result c.unwrap.ensures.in_class c.into_smallcase-byte.ensures in
    let next = next_singleton es index _ _ byte (c.loop-index.invariant.left es spells ∙ c.in-Some.ensures.steps) c.singleton.ensures.first_byte in
    let flag = c.loop-index.invariant.flag es spells c.into_smallcase-byte.result below in
    let seen : list_any (are_alike_bytes byte) (take index (singletons es)) ≡ true = search rules in
    sym (repeat-found are_alike_bytes (singletons es) index byte _ (c.loop-index.invariant.so_far es spells) next.left seen)

pub loop-index-preserved : goal.loop-index-preserved
loop-index-preserved c =
    let index = c.loop-index.index in
    let byte = singleton_byte c.singleton.result in
    let below = fold_singleton-below c.unwrap.result c.into_smallcase-byte.result c.unwrap.ensures.in_class c.into_smallcase-byte.ensures in
    record {
      can_next = tt;
      is_finite = tt;
      counter = omega (arith, c.loop-index.invariant.counter, ap length c.in-Some.ensures.steps);
      flags = length-set _ _ _ ∙ c.loop-index.invariant.flags;
      flag = λ es spells.
          let next = next_singleton es index _ _ byte (c.loop-index.invariant.left es spells ∙ c.in-Some.ensures.steps) c.singleton.ensures.first_byte in
          AreFlagsOf-set c.loop-index.seen (singletons es) index byte c.into_smallcase-byte.result _ (IsAt-drop _ index byte _ next.left) c.loop-index.invariant.flags
          (search rules) below (c.loop-index.invariant.flag es spells);
      so_far = λ es spells.
          let next = next_singleton es index _ _ byte (c.loop-index.invariant.left es spells ∙ c.in-Some.ensures.steps) c.singleton.ensures.first_byte in
          let flag = c.loop-index.invariant.flag es spells c.into_smallcase-byte.result below in
          let new : list_any (are_alike_bytes byte) (take index (singletons es)) ≡ false = search rules in
          repeat-later are_alike_bytes (singletons es) index byte _ (c.loop-index.invariant.so_far es spells) next.left new;
      left = λ es spells. (next_singleton es index _ _ byte (c.loop-index.invariant.left es spells ∙ c.in-Some.ensures.steps) c.singleton.ensures.first_byte).later;
    }
