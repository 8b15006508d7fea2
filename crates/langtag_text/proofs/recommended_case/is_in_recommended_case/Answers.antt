use Rattle.langtag_scan.proofs.Prelude.{◌≡◌, ◌∙◌, ap, refl, YieldsList-from_first, is_eq-slice_cmp, bytes_eq-Decides, bytes_eq, nat_cmp, is_eq}
use Rattle.std.proofs.lemmas.Iterator.{YieldsList-from_slice}
use Rattle.std.proofs.lemmas.Iterator.Consumers.{YieldsList-from_copied}
use Rattle.std.proofs.lemmas.Iterator.Search.{cmp_from_yields_List}
use Rattle.langtag_text.specs.RecommendedCase.{recommended_text}
use Rattle.langtag_text.proofs.recommended_case.is_in_recommended_case.Goals as goal

pub returns : goal.returns
returns c =
    let text = c.args.text.now in
    let order = cmp_from_yields_List (λ x y. y ≡ x) _ nat_cmp _ c.cmp.ensures.ran (YieldsList-from_first (λ x. x) (λ walk. walk) (recommended_text text) c.new.ensures)
    (λ it e. YieldsList-from_copied (YieldsList-from_slice text cc)) (λ x y. refl) in
    let same : c.is_eq.result ≡ bytes_eq (recommended_text text) text = c.is_eq.ensures ∙ ap is_eq order ∙ is_eq-slice_cmp (recommended_text text) text in
    rw same (bytes_eq-Decides (recommended_text text) text)
