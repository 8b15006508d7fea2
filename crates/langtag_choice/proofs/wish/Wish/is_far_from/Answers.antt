use Rattle.std.proofs.Common.{sym, ◌∙◌}
use Rattle.langtag_choice.proofs.wish.Wish.is_far_from.Goals as goal

pub returns-in-Some-language_of-clause-far : goal.returns-in-Some-language_of-clause-far
returns-in-Some-language_of-clause-far c = λ far.
    c.is_far_from_language.ensures.far far c.args.tag.now (sym c.first_two.ensures ∙ c.in-Some.is)
    (c.language_of.ensures.language c.in-Some-language_of.number c.in-Some-language_of.is)
