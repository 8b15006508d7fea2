use Rattle.langtag_scan.proofs.Prelude.{arith, common_steps}
use Rattle.langtag_range.proofs.Among.{test_basic-decides, same_test}
use Rattle.langtag_match.proofs.language_range.LanguageRange.matches_basic.Goals as goal

pub returns-clause-test : goal.returns-clause-test
returns-clause-test c = grind (arith, common_steps, same_test, test_basic-decides c.as_str.result.now c.as_str-2.result.now)
