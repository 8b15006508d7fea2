use Rattle.langtag_choice.proofs.PreparedForms.{letters_kept, number_kept}
use Rattle.langtag_choice.proofs.prepared_form.PreparedForm.is_far_from.Goals as goal

pub returns-clause-far : goal.returns-clause-far
returns-clause-far c = λ yes tag prepared. c.is_far_from_language.ensures.far yes tag (letters_kept tag c.args.self.now prepared c.if-self-eq0.false) (number_kept tag c.args.self.now c.from.result prepared c.if-self-eq0.false c.from.ensures)

pub returns-clause-kept : goal.returns-clause-kept
returns-clause-kept c = λ yes tag prepared. c.is_far_from_language.ensures.kept yes tag (letters_kept tag c.args.self.now prepared c.if-self-eq0.false)
