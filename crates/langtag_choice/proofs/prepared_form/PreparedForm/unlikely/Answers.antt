use Rattle.langtag_choice.proofs.PreparedForms.{unlikely_is_kept}
use Rattle.langtag_choice.proofs.prepared_form.PreparedForm.unlikely.Goals as goal

pub returns : goal.returns
returns c = λ kept is tag prepared. cc (is, unlikely_is_kept tag c.args.self.now prepared c.if-self-eq0.false)
