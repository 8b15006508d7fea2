use Rattle.std.proofs.Common.{◌∷◌, [], ap, sym, ◌∙◌, option_map}
use Rattle.langtag_private.specs.Text.{private_use_text}
use Rattle.langtag_text.proofs.Pushed.{private_pushed, pushes_same}
use Rattle.langtag.proofs.push.push_private_use.Goals as goal

pub returns-in-Some : goal.returns-in-Some
returns-in-Some c = λ part same.
    private_pushed part (private_use_text c.in-Some.private_use) _ _ (ap (option_map private_use_text) (sym c.in-Some.is) ∙ same)
    (pushes_same _ _ _ _ (ap (λ t. t ∷ []) c.as_bytes.ensures) c.push_subtag.ensures)
