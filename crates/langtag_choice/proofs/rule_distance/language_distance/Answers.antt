use Rattle.langtag_scan.proofs.Prelude.{None, Some, refl, sym, ap, ◌∙◌, arith, result_ok}
use Rattle.langtag_cldr.specs.Texts.{field_texts}
use Rattle.langtag_choice.proofs.MatchingTables.{language_found, language_long}
use Rattle.langtag_cldr.proofs.FieldClasses.{language_letters}
use Rattle.langtag_cldr.proofs.TableRows.{index_searched}
use Rattle.langtag_choice.proofs.rule_distance.language_distance.Goals as goal

pub returns-then-max-gt3-clause-distance : goal.returns-then-max-gt3-clause-distance
returns-then-max-gt3-clause-distance c =
    language_long (field_texts c.args.desired) (field_texts c.args.supported) (sym c.case_insensitive_eq.ensures.test ∙ c.if-case_insensitive_eq.false) (omega (arith, c.max.ensures, c.if-max-gt3.true))

pub returns-in-Ok-clause-distance : goal.returns-in-Ok-clause-distance
returns-in-Ok-clause-distance c =
    language_found (field_texts c.args.desired) (field_texts c.args.supported) (Some c.in-Ok.index) _ _ _ (sym c.case_insensitive_eq.ensures.test ∙ c.if-case_insensitive_eq.false)
    (language_letters _ c.args.desired.language_class) (language_letters _ c.args.supported.language_class) c.language_pair.ensures.half
    c.language_rule_keys.ensures.numbers c.language_pair.ensures.number (ap result_ok (sym c.in-Ok.is) ∙ index_searched c.language_rule_keys.result.now c.language_pair.result _ c.language_rule_keys.ensures.climbs c.binary_search.ensures.position) c.language_rule_distance.ensures.distance

pub returns-in-Err-clause-distance : goal.returns-in-Err-clause-distance
returns-in-Err-clause-distance c =
    language_found (field_texts c.args.desired) (field_texts c.args.supported) None 80 _ _ (sym c.case_insensitive_eq.ensures.test ∙ c.if-case_insensitive_eq.false)
    (language_letters _ c.args.desired.language_class) (language_letters _ c.args.supported.language_class) c.language_pair.ensures.half
    c.language_rule_keys.ensures.numbers c.language_pair.ensures.number (ap result_ok (sym c.in-Err.is) ∙ index_searched c.language_rule_keys.result.now c.language_pair.result _ c.language_rule_keys.ensures.climbs c.binary_search.ensures.position) refl
