use Rattle.std.proofs.Common.{◌≡◌, sym, subst, ◌∙◌, arith}
use Rattle.std.proofs.lemmas.Grind.{common_steps}
use Rattle.langtag_scan.specs.Grammar.{ForSome}
use Rattle.langtag_cldr.specs.Definitions.{matching_form}
use Rattle.langtag_choice.specs.FirstLetters.{IsFirst}
use Rattle.langtag_choice.specs.NearLanguages.{HasNumber}
use Rattle.langtag_choice.proofs.FarTags.{language_of_first}
use Rattle.langtag_choice.proofs.first_letters.language_of.Goals as goal

pub returns-clause-language : goal.returns-clause-language
returns-clause-language c = λ number is.
    let same : c.in_ok-number.number ≡ number = cc in
    let begins : IsFirst c.args.tag.now c.in_ok-number.number c.in_ok-number.rest.now = grind (arith, common_steps, c.in_ok-number.ensures.first) in
    let keeps = c.may_change_language.ensures c.if-may_change_language.false in
    let absent = sym c.is_changed.ensures ∙ c.if-is_changed.false in
    subst (λ n. ForSome (matching_form c.args.tag.now) (HasNumber n)) same (language_of_first c.args.tag.now c.in_ok-number.rest.now c.in_ok-number.number begins keeps absent)
