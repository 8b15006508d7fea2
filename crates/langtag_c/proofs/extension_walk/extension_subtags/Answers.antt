use Rattle.std.proofs.lemmas.Bool.Decides.{nat_tests}
use Rattle.std.proofs.Common.{refl, arith}
use Rattle.langtag_scan.specs.Tag.{IsNormal}
use Rattle.langtag_c.proofs.FoundExtension.{end-of_record}
use Rattle.langtag_c.proofs.extension_walk.extension_subtags.Goals as goal

pub returns-in_default-clause-subtags : goal.returns-in_default-clause-subtags
unfolding IsNormal
returns-in_default-clause-subtags c = record { part = λ r spells. absurd (c.in_default.ensures.none refl (r, spells)); absent = λ other. refl }

pub find_extension-requires-clause-extensions : goal.find_extension-requires-clause-extensions
unfolding IsNormal
find_extension-requires-clause-extensions c = grind (arith, nat_tests, c.in-Some.ensures.normal, c.in-Some.ensures.text)

pub returns-clause-end : goal.returns-clause-end
returns-clause-end c some r spells =
    end-of_record c.args.singleton c.args.bytes.now c.in-Some.extensions _ r spells.0 (c.in-Some.ensures.text r spells) (c.in-Some.ensures.end r spells) (c.find_extension.ensures.end some)
