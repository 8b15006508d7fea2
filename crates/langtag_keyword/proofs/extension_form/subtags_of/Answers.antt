use Rattle.std.proofs.lemmas.Bool.Decides.{nat_tests}
use Rattle.std.proofs.Common.{arith}
use Rattle.langtag_keyword.proofs.Common.{drop, ap, ◌∙◌, subtags}
use Rattle.langtag_keyword.proofs.SubtagTexts.{boundary-after_singleton, fits-after_singleton, subtags-after_singleton}
use Rattle.langtag_keyword.proofs.extension_form.subtags_of.Goals as goal

pub range_from-requires : goal.range_from-requires
range_from-requires c _ = boundary-after_singleton _ c.as_str.utf8 c.as_str.ensures.in_class

pub returns-clause-subtags : goal.returns-clause-subtags
returns-clause-subtags c = λ e spells. ap subtags (c.range_from.ensures.value ∙ ap (drop 2) c.as_str.ensures.same_text) ∙ subtags-after_singleton e _ spells

pub returns-clause-each : goal.returns-clause-each
returns-clause-each c = grind (arith, nat_tests, c.range_from.ensures.value, fits-after_singleton c.as_str.result.now c.as_str.ensures.in_class)
