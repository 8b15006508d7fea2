use Rattle.std.proofs.lemmas.Bool.Decides.{nat_tests}
use Rattle.std.proofs.Common.{arith}
use Rattle.langtag_keyword.proofs.Common.{subtags-joined}
use Rattle.langtag_keyword.proofs.SubtagTexts.{fits-before_key}
use Rattle.langtag_keyword.proofs.subtags.preceding.Goals as goal

pub returns : goal.returns
returns c =
    grind (arith, nat_tests, c.nonempty-2.ensures.segments, c.before_key.ensures, c.nonempty.ensures.segments, subtags-joined, fits-before_key, c.requires)
