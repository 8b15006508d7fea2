use Rattle.langtag_scan.proofs.Prelude.{◌≡◌, ◌∙◌, ◌++◌, [], codes, false, flat_map, true, refl, subst, on_ok_weaker}
use Rattle.langtag_show.specs.ShowAnswer.{IsShowAnswer, refused}
use Rattle.langtag_show.proofs.KindAnswers.{answer_private, answer_irregular}
use Rattle.langtag_show.proofs.Written.{Answers-one}
use Rattle.langtag_show.proofs.answer.put_answer.Goals as goal

pub returns-in_default-clause-ok : goal.returns-in_default-clause-ok
returns-in_default-clause-ok g c =
    on_ok_weaker c.put_line.result (λ gained. Answers-one _ _ _ _ (refused (λ is. let no : false ≡ true = c.in_default.ensures.accepts.1 is in absurd cc) refl) gained) c.put_line.ensures.ok

pub returns-in-Normal-clause-ok : goal.returns-in-Normal-clause-ok
returns-in-Normal-clause-ok g c =
    let is = subst (λ line. IsShowAnswer line (flat_map (λ piece. piece.now) c.normal_answer.result)) (c.in-Normal.ensures ∙ c.in-Ok.ensures.same_text) c.normal_answer.ensures in
    on_ok_weaker c.put_line-in-Normal.result (λ gained. Answers-one _ _ _ _ is gained) c.put_line-in-Normal.ensures.ok

pub returns-in-PrivateUse-clause-ok : goal.returns-in-PrivateUse-clause-ok
returns-in-PrivateUse-clause-ok g c =
    let is = answer_private _ _ c.as_str.ensures.in_class (c.as_str.ensures.same_text ∙ c.in-PrivateUse.ensures ∙ c.in-Ok.ensures.same_text) in
    on_ok_weaker c.put_line-in-PrivateUse.result (λ gained. Answers-one _ _ _ _ is gained) c.put_line-in-PrivateUse.ensures.ok

pub returns-in-Grandfathered-clause-ok : goal.returns-in-Grandfathered-clause-ok
returns-in-Grandfathered-clause-ok g c =
    let is = subst (λ line. IsShowAnswer line (codes "irregular " ++ (c.as_str-in-Grandfathered.result.now ++ []))) c.in-Ok.ensures.same_text (answer_irregular _ _ _ c.in-Grandfathered.ensures c.as_str-in-Grandfathered.ensures) in
    on_ok_weaker c.put_line-in-Grandfathered.result (λ gained. Answers-one _ _ _ _ is gained) c.put_line-in-Grandfathered.ensures.ok
