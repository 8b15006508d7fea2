use Rattle.std.proofs.lemmas.Bool.Decides.{nat_tests}
use Rattle.std.proofs.Common.{arith}
use Rattle.langtag_scan.specs.Tag.{IsNormal}
use Rattle.langtag_locale.proofs.locale_for.as_locale.Goals as goal

pub returns-in_err-normal-clause-none : goal.returns-in_err-normal-clause-none
unfolding IsNormal
returns-in_err-normal-clause-none c = λ is locale. let found = c.in_err-normal.ensures.kind.1 (locale.0, locale.1) in absurd cc

pub returns-clause-some : goal.returns-clause-some
unfolding IsNormal
returns-clause-some c =
    grind (arith, nat_tests, c.in_ok-normal.ensures.kind.0, c.in_ok-normal.ensures.same_text, c.is_read_record.ensures, c.if-not-is_read_record.false)
