use Rattle.langtag_keyword.proofs.Common.{◌++◌, [], sym, ap, ◌∙◌, flat_map, pushes_both, pushes_same, extension_flat, at_place, extension_of}
use Rattle.langtag_keyword.specs.EditText.{replaces}
use Rattle.langtag_locale.specs.Resolved.{resolved_subtags}
use Rattle.langtag_locale.specs.WishTexts.{wish_texts}
use Rattle.langtag_keyword.proofs.ExtensionsPut.{extension-pushed, flat-last}
use Rattle.langtag_locale.proofs.resolved_extensions.push_at.Goals as goal

pub returns-in-BeforeGreater : goal.returns-in-BeforeGreater
returns-in-BeforeGreater c = λ e spells.
    let change = resolved_subtags (wish_texts c.args.wish) in
    let before = extension_of 117 (change []) in
    pushes_same (flat_map extension_flat before ++ extension_flat e) (flat_map extension_flat (at_place change (replaces c.args.place) e)) c.args.out.now c.push_subtag.new.self
    (sym (ap (λ b. flat_map extension_flat (at_place change b e)) (ap replaces c.in-BeforeGreater.is) ∙ flat-last before e))
    (pushes_both (flat_map extension_flat before) (extension_flat e) c.args.out.now c.push_unicode-in-BeforeGreater.new.out c.push_subtag.new.self c.push_unicode-in-BeforeGreater.ensures
    (extension-pushed e _ _ _ _ spells c.as_bytes.ensures c.push_subtag.ensures))
