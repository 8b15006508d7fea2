use Rattle.std.proofs.Common.{◌≡◌, ◌+◌, ◌∷◌, [], subst, arith}
use Rattle.langtag_choice.specs.FirstLetters.{IsNumberOf}
use Rattle.langtag_choice.proofs.FarTags.{letter_of}
use Rattle.langtag_choice.proofs.first_letters.place_of.Goals as goal

pub returns-clause-number : goal.returns-clause-number
returns-clause-number c = λ number is.
    let same : c.from.result + 1 ≡ number = cc in
    let cases = c.if-not-is_ascii_lowercase.ensures.cases in
    let found = letter_of c.args.byte c.into_smallcase-small.result (c.from.result + 1) c.into_smallcase-small.ensures (omega (arith, cases)) (omega (arith, cases)) (omega (arith, cases, c.from.ensures)) in
    subst (IsNumberOf (c.args.byte ∷ [])) same found
