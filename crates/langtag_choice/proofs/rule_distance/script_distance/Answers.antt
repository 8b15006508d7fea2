use Rattle.langtag_scan.proofs.Prelude.{None, Some, refl, sym, ap, ◌∙◌, arith, result_ok}
use Rattle.langtag_cldr.specs.Definitions.{without_region, field_texts}
use Rattle.langtag_choice.proofs.MatchingTables.{script_found, script_long}
use Rattle.langtag_cldr.proofs.FieldClasses.{fields_plain}
use Rattle.langtag_cldr.proofs.TableRows.{index_searched}
use Rattle.langtag_choice.proofs.rule_distance.script_distance.Goals as goal

pub returns-then-max-gt3-clause-distance : goal.returns-then-max-gt3-clause-distance
returns-then-max-gt3-clause-distance c =
    script_long (field_texts c.args.desired) (field_texts c.args.supported) (sym c.case_insensitive_eq.ensures.test ∙ c.if-case_insensitive_eq.false) (omega (arith, c.max.ensures, c.if-max-gt3.true))

pub returns-in-Ok-clause-distance : goal.returns-in-Ok-clause-distance
returns-in-Ok-clause-distance c =
    script_found (field_texts c.args.desired) (field_texts c.args.supported) (Some c.in-Ok.index) _ _ _ (sym c.case_insensitive_eq.ensures.test ∙ c.if-case_insensitive_eq.false)
    (fields_plain (without_region (field_texts c.args.desired)) c.args.desired.language_class c.args.desired.script_class refl)
    (fields_plain (without_region (field_texts c.args.supported)) c.args.supported.language_class c.args.supported.script_class refl) c.script_pair.ensures.half
    c.script_rule_keys.ensures.numbers c.script_pair.ensures.number (ap result_ok (sym c.in-Ok.is) ∙ index_searched c.script_rule_keys.result.now c.script_pair.result _ c.script_rule_keys.ensures.climbs c.binary_search.ensures.position) c.script_rule_distance.ensures.distance

pub returns-in-Err-clause-distance : goal.returns-in-Err-clause-distance
returns-in-Err-clause-distance c =
    script_found (field_texts c.args.desired) (field_texts c.args.supported) None 50 _ _ (sym c.case_insensitive_eq.ensures.test ∙ c.if-case_insensitive_eq.false)
    (fields_plain (without_region (field_texts c.args.desired)) c.args.desired.language_class c.args.desired.script_class refl)
    (fields_plain (without_region (field_texts c.args.supported)) c.args.supported.language_class c.args.supported.script_class refl) c.script_pair.ensures.half
    c.script_rule_keys.ensures.numbers c.script_pair.ensures.number (ap result_ok (sym c.in-Err.is) ∙ index_searched c.script_rule_keys.result.now c.script_pair.result _ c.script_rule_keys.ensures.climbs c.binary_search.ensures.position) refl
