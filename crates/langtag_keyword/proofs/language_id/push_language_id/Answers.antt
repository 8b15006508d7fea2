use Rattle.langtag_keyword.proofs.Common.{◌∷◌, ◌++◌, [], map, pushes_both, pushes_same, fold_text, segments, segments_left, in_alphabet, language_form, arith, nat_tests, one_flat, option_map, ◌≡◌}
use Rattle.langtag_keyword.proofs.language_id.push_language_id.Goals as goal

pub returns : goal.returns
returns c =
    let language = fold_text c.split_first.result.0.now ∷ [] in
    let script = map fold_text (one_flat (option_map (λ t. t.now) c.take_script.result.0)) in
    let region = map fold_text (one_flat (option_map (λ t. t.now) c.take_region.result.0)) in
    let variants = in_alphabet (segments_left c.take_region.result.1) in
    let all : language ++ (script ++ (region ++ variants)) ≡ language_form (segments c.args.text.now) = grind (arith, nat_tests, c.split_first.ensures, c.take_script.ensures, c.take_region.ensures) in
    pushes_same _ _ _ _ all
    (pushes_both language (script ++ (region ++ variants)) _ _ _ c.push_lowercase.ensures
    (pushes_both script (region ++ variants) _ _ _ c.push_optional.ensures (pushes_both region variants _ _ _ c.push_optional-2.ensures c.push_in_alphabet.ensures)))
