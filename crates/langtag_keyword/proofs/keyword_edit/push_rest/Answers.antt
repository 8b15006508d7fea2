use Rattle.langtag_keyword.proofs.Common.{refl, flat_map, extension_text, extensions_left, extension_flat, pushes_ended}
use Rattle.langtag_keyword.proofs.ExtensionsPut.{extension-pushed, left-next, left-none}
use Rattle.langtag_keyword.proofs.keyword_edit.push_rest.Goals as goal

pub loop-extension-preserved : goal.loop-extension-preserved
loop-extension-preserved c = record {
  can_next = tt;
  is_finite = tt;
  so_far = λ es members spelled.
      left-next (flat_map extension_flat) (flat_map extension_flat es) c.args.out.now c.loop-extension.out (flat_map extension_flat) extension_flat _ (extensions_left c.next.new.self) (extension_text c.in-Some.extension)
      c.push_subtag.new.self c.in-Some.ensures.steps (c.loop-extension.invariant.so_far es members spelled) (λ e others spells. refl)
      (λ e spells. extension-pushed e _ _ _ _ spells c.as_bytes.ensures c.push_subtag.ensures);
}

pub returns : goal.returns
returns c = λ es members spelled. left-none _ _ (c.loop-extension.invariant.so_far es members spelled) c.in-None.ensures.steps.0 _ (pushes_ended _ _ refl)
