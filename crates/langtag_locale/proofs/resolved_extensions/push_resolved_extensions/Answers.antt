use Rattle.langtag_keyword.proofs.Common.{List, ◌++◌, sym, ◌∙◌, flat_map, extension_text, extensions_left, pushes_both, pushes_same, Extension, extension_flat, at_place, changed_from, with_changed_u}
use Rattle.langtag_keyword.specs.EditText.{replaces}
use Rattle.langtag_locale.specs.Resolved.{resolved_subtags}
use Rattle.langtag_locale.specs.WishTexts.{wish_texts}
use Rattle.langtag_keyword.proofs.ExtensionsPut.{extension-pushed, left-next, left-none, left-opens, ArePut}
use Rattle.langtag_keyword.proofs.KeywordLaws.{u-here, u-later}
use Rattle.langtag_locale.proofs.resolved_extensions.push_resolved_extensions.Goals as goal

pub returns-then-is_at : goal.returns-then-is_at
returns-then-is_at c = λ es spells.
    let change = resolved_subtags (wish_texts c.args.wish) in
    let stands = replaces c.place_of_unicode-place.result in
    let put = λ (left : List Extension). flat_map extension_flat (changed_from change stands left) in
    let o =
    left-opens (ArePut put (flat_map extension_flat (with_changed_u change es)) c.args.out.now c.loop-extension.out) _ (c.loop-extension.invariant es spells) (extensions_left c.next.new.self)
    (extension_text c.in-Some.extension) c.in-Some.ensures.steps in
    let others = o.others.left in
    o.others.holds c.push_rest.new.out
    (pushes_same (flat_map extension_flat (at_place change stands o.first) ++ flat_map extension_flat others) _ c.loop-extension.out c.push_rest.new.out
    (sym (u-here change stands o.first others (sym (c.is_at.ensures o.first o.spells) ∙ c.if-is_at.true)))
    (pushes_both (flat_map extension_flat (at_place change stands o.first)) (flat_map extension_flat others) c.loop-extension.out c.push_at.new.out c.push_rest.new.out
    (c.push_at.ensures o.first o.spells) (c.push_rest.ensures others o.others.members o.others.spelled)))

pub loop-extension-preserved : goal.loop-extension-preserved
loop-extension-preserved c =
    let change = resolved_subtags (wish_texts c.args.wish) in
    let stands = replaces c.place_of_unicode-place.result in
    let put = λ (left : List Extension). flat_map extension_flat (changed_from change stands left) in
    λ es spells.
    left-next put (flat_map extension_flat (with_changed_u change es)) c.args.out.now c.loop-extension.out put extension_flat _ (extensions_left c.next.new.self) (extension_text c.in-Some.extension) c.push_subtag.new.self
    c.in-Some.ensures.steps (c.loop-extension.invariant es spells)
    (λ e others spelled. u-later change stands e others (sym (c.is_at.ensures e spelled) ∙ c.if-is_at.false))
    (λ e spelled. extension-pushed e _ _ _ _ spelled c.as_bytes.ensures c.push_subtag.ensures)

pub returns : goal.returns
returns c = λ es spells. left-none _ _ (c.loop-extension.invariant es spells) c.in_default.ensures.steps.0 c.push_unicode.new.out c.push_unicode.ensures
