use Rattle.langtag_scan.proofs.Prelude.{◌&&◌, ◌==◌, length, take, map, arith, sym, ap, ◌∙◌, list_any, get_or-replicate, length-replicate, common_steps}
use Rattle.langtag_scan.specs.Grammar.{subtags, folded_number}
use Rattle.langtag_place.specs.Text.{variant_text, variants_text}
use Rattle.langtag_place.proofs.RepeatLaws.{numbers-more, new-here, met-again, repeat-at, HasNoRepeatBefore-more, IsAt-drop}
use Rattle.langtag_place.proofs.variant_blocks.first_met_again.Goals as goal

pub loop-index-init : goal.loop-index-init
loop-index-init g c = grind (arith, common_steps, c.requires.room, length-replicate, get_or-replicate, c.iter-variant-items.ensures.list)

pub returns-then-meet : goal.returns-then-meet
returns-then-meet g c =
    let all = subtags (variants_text c.args.variants) in
    let index = c.loop-index.index in
    let text = variant_text c.in-Some.variant in
    let here = c.loop-index.invariant.left ∙ c.in-Some.ensures.steps in
    let earlier = map folded_number (take index all) in
    let again =
    sym c.if-meet.true ∙ c.meet.ensures.again earlier c.loop-index.invariant.met
    ∙ ap (λ n. list_any (λ other. other == n) c.args.block.now && list_any (λ other. other == n) earlier) c.number_of.ensures in
    sym (repeat-at all index text _ c.loop-index.invariant.new (IsAt-drop all index text _ here) here
    (met-again all index text c.args.block.now c.args.variants.in_class c.in-Some.variant.in_class again))

pub loop-index-preserved : goal.loop-index-preserved
loop-index-preserved g c =
    let all = subtags (variants_text c.args.variants) in
    let index = c.loop-index.index in
    let text = variant_text c.in-Some.variant in
    let at = IsAt-drop all index text _ (c.loop-index.invariant.left ∙ c.in-Some.ensures.steps) in
    let earlier = map folded_number (take index all) in
    let again =
    sym c.if-meet.false ∙ c.meet.ensures.again earlier c.loop-index.invariant.met
    ∙ ap (λ n. list_any (λ other. other == n) c.args.block.now && list_any (λ other. other == n) earlier) c.number_of.ensures in
    let within = c.loop-index.invariant.within in
    let apart = c.if-index-start.false in
    record {
      can_next = tt;
      is_finite = tt;
      counter = omega (arith, c.loop-index.invariant.counter, ap length c.in-Some.ensures.steps);
      within = omega (arith, within, apart);
      flags = c.meet.ensures.room ∙ c.loop-index.invariant.flags;
      met = rw (numbers-more all index text _ at, ← c.number_of.ensures) (c.meet.ensures.met earlier c.loop-index.invariant.met);
      new = HasNoRepeatBefore-more all index c.loop-index.invariant.new
          (new-here all c.args.start index text _ c.args.block.now c.args.variants.in_class c.in-Some.variant.in_class c.requires.new c.requires.from_start at
          (omega (arith, within, apart)) again);
      left = at.later;
    }
