use Rattle.langtag_keyword.proofs.Common.{◌≤◌, [], ◌∷◌, ap, arith, length, flat_map, extension_flat, extension_of, nat_tests, pushes_both, pushes_ended, pushes_same, subtags, sym}
use Rattle.langtag_keyword.proofs.KeywordBlocks.{extension-flat}
use Rattle.std.proofs.lemmas.List.{nil_from_length}
use Rattle.std.proofs.Common.{eqb-true, ◌∙◌}
use Rattle.langtag_locale.specs.Resolved.{resolved_subtags}
use Rattle.langtag_locale.specs.WishTexts.{wish_texts}
use Rattle.langtag_locale.proofs.resolved_extensions.push_unicode.Goals as goal

pub returns-then-is_resolved_empty : goal.returns-then-is_resolved_empty
returns-then-is_resolved_empty c =
    let ss = resolved_subtags (wish_texts c.args.wish) (subtags c.args.text.now) in
    pushes_ended _ _ (ap (λ ss. flat_map extension_flat (extension_of c.args.singleton ss)) (nil_from_length ss (eqb-true _ _ (sym c.is_resolved_empty.ensures ∙ c.if-is_resolved_empty.true))))

pub returns : goal.returns
returns c =
    let ss = resolved_subtags (wish_texts c.args.wish) (subtags c.args.text.now) in
    let some : 1 ≤ length ss = grind (arith, nat_tests, c.is_resolved_empty.ensures, c.if-is_resolved_empty.false) in
    pushes_same _ _ _ _ (sym (extension-flat c.args.singleton ss some)) (pushes_both ((c.args.singleton ∷ []) ∷ []) ss _ _ _ c.push_subtag.ensures c.push_resolved.ensures)
