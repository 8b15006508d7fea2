use Rattle.langtag_keyword.proofs.Common.{arith, nat_tests}
use Rattle.langtag_scan.specs.Grammar.{fold_byte, is_digit, is_letter}
use Rattle.langtag_keyword.proofs.key_set.place_of.Goals as goal

pub returns-then-is_ascii_digit-clause-place : goal.returns-then-is_ascii_digit-clause-place
unfolding is_digit
returns-then-is_ascii_digit-clause-place c = grind (arith, nat_tests)

pub overflow_sub-into_smallcase : goal.overflow_sub-into_smallcase
unfolding is_letter is_digit fold_byte
overflow_sub-into_smallcase c = grind (arith, nat_tests)

pub returns-clause-place : goal.returns-clause-place
unfolding is_digit
returns-clause-place c = grind (arith, nat_tests)

pub returns-clause-within : goal.returns-clause-within
unfolding is_letter is_digit fold_byte
returns-clause-within c = grind (arith, nat_tests)
