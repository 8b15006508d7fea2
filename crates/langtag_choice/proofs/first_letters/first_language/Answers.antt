use Rattle.std.proofs.Common.{arith, refl, sym, ◌∙◌}
use Rattle.langtag_choice.specs.FirstLetters.{IsFirst}
use Rattle.langtag_choice.proofs.FarTags.{first_three_alone, first_three_marked, first_two_alone, first_two_marked, for_some}
use Rattle.langtag_choice.proofs.first_letters.first_language.Goals as goal

pub returns-in_ok-number_of_two-in-len2-clause-first : goal.returns-in_ok-number_of_two-in-len2-clause-first
returns-in_ok-number_of_two-in-len2-clause-first c = λ pair is.
    for_some (λ p. IsFirst c.args.text.now p.0 p.1.now) _ pair is
    (first_two_alone c.args.text.now _ c.in-len2.len_at_least c.in-len2.len_below (c.in_ok-number_of_two-in-len2.ensures.number _ refl))

pub returns-in_ok-number_of_three-in-len3-clause-first : goal.returns-in_ok-number_of_three-in-len3-clause-first
returns-in_ok-number_of_three-in-len3-clause-first c = λ pair is.
    for_some (λ p. IsFirst c.args.text.now p.0 p.1.now) _ pair is
    (first_three_alone c.args.text.now _ c.in-len3.len_at_least c.in-len3.len_below (c.in_ok-number_of_three-in-len3.ensures.number _ refl))

pub returns-in_ok-number_of_two-in-len4-up-clause-first : goal.returns-in_ok-number_of_two-in-len4-up-clause-first
returns-in_ok-number_of_two-in-len4-up-clause-first c = λ pair is.
    for_some (λ p. IsFirst c.args.text.now p.0 p.1.now) _ pair is
    (first_two_marked c.args.text.now _ (omega (arith, c.in-len4-up.len_at_least)) (sym c.is_separator.ensures ∙ c.if-is_separator.true) (c.in_ok-number_of_two-in-len4-up.ensures.number _ refl))

pub returns-in_ok-number_of_three-in-len4-up-clause-first : goal.returns-in_ok-number_of_three-in-len4-up-clause-first
returns-in_ok-number_of_three-in-len4-up-clause-first c = λ pair is.
    for_some (λ p. IsFirst c.args.text.now p.0 p.1.now) _ pair is
    (first_three_marked c.args.text.now _ c.in-len4-up.len_at_least (sym c.is_separator-else-is_separator.ensures ∙ c.if-is_separator-2.true) (c.in_ok-number_of_three-in-len4-up.ensures.number _ refl))
