use Rattle.langtag_keyword.proofs.Common.{List, false, ap, ◌∙◌, flat_map, extension_text, extensions_left, Extension, extension_flat, extension_form, forms_after}
use Rattle.langtag_keyword.proofs.ExtensionsPut.{left-next, left-none}
use Rattle.langtag_keyword.proofs.extension_form.push_extensions.Goals as goal

pub loop-extension-init : goal.loop-extension-init
loop-extension-init c = record {
  can_next = tt;
  is_finite = tt;
  so_far = λ es spells. record {
    left = es;
    spelled = ap extensions_left c.into_iter-extension-iterator.ensures.into_iter_gives ∙ c.iter-extension-items.ensures.list es spells;
    members = spells.members;
    holds = λ new those. those;
  };
}

pub loop-extension-preserved : goal.loop-extension-preserved
loop-extension-preserved c =
    let after_u = c.loop-extension.after_u in
    let after_t = c.loop-extension.after_t in
    record {
      can_next = tt;
      is_finite = tt;
      so_far = λ es spells.
          left-next (λ (left : List Extension). flat_map extension_flat (forms_after after_u after_t left)) (flat_map extension_flat (forms_after false false es)) _ c.loop-extension.out
          (λ left. flat_map extension_flat (forms_after c.is_after-after_u.result c.is_after-after_t.result left)) (λ e. extension_flat (extension_form after_u after_t e))
          _ (extensions_left c.next.new.self) (extension_text c.in-Some.extension) _ c.in-Some.ensures.steps (c.loop-extension.invariant.so_far es spells)
          (λ e others spelled. rw (c.is_after-after_u.ensures e spelled, c.is_after-after_t.ensures e spelled)) c.push_extension.ensures;
    }

pub returns : goal.returns
returns c = λ es spells. left-none _ _ (c.loop-extension.invariant.so_far es spells) c.in-None.ensures.steps.0 _ (λ first text has. has)
