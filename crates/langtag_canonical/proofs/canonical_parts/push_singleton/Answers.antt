use Rattle.langtag_scan.proofs.Prelude.{sym, ap, ◌∙◌, arith, eq-eqb, ne_eqb, common_steps}
use Rattle.langtag.specs.Definitions.{extension_text, extensions_left, of_singleton, small_singleton}
use Rattle.langtag_text.proofs.Pushed.{pushes_same, pushes_next, pushes_ended}
use Rattle.langtag_canonical.proofs.canonical_parts.push_singleton.Goals as goal

pub loop-extension-init : goal.loop-extension-init
loop-extension-init c = grind (arith, common_steps, pushes_same)

pub loop-extension-preserved : goal.loop-extension-preserved
loop-extension-preserved c =
    let small = c.args.singleton in
    let text = extension_text c.in-Some.extension in
    let same = eq-eqb small (small_singleton text) (sym (sym c.folded_singleton.ensures ∙ c.if-folded_singleton-singleton.false)) in
    let those = of_singleton small (extensions_left c.next.new.self) in
    record {
      can_next = tt;
      is_finite = tt;
      so_far = λ es spells new these.
          c.loop-extension.invariant.so_far es spells new
          (rw (c.in-Some.ensures.steps, same) (pushes_next _ text those _ _ new c.as_bytes.ensures c.push_subtag.ensures these));
    }

pub loop-extension-preserved-then-folded_singleton-singleton : goal.loop-extension-preserved-then-folded_singleton-singleton
loop-extension-preserved-then-folded_singleton-singleton c =
    let text = extension_text c.in-Some.extension in
    let apart = ne_eqb c.args.singleton (small_singleton text) (λ same. c.if-folded_singleton-singleton.true (c.folded_singleton.ensures ∙ sym same)) in
    record {
      can_next = tt;
      is_finite = tt;
      so_far = λ es spells new these. c.loop-extension.invariant.so_far es spells new (rw (c.in-Some.ensures.steps, apart) these);
    }

pub returns : goal.returns
returns c = λ es spells. c.loop-extension.invariant.so_far es spells _ (pushes_ended _ _ (ap (of_singleton c.args.singleton) c.in-None.ensures.steps.0))
