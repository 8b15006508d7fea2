-- The maximal and the minimal record of a well-formed one are well-formed; the laws of both forms, over texts.
use Rattle.langtag_scan.proofs.Prelude.{◌≡◌, ℕ, true, Bool, cond, List, [], ◌∷◌, Option, Some, option_map, IsTrue, refl, arith, rules, codes, sym, ap, ◌∙◌, and_parts, list_all, AllByRecursion, option_map_or}
use Rattle.langtag_scan.specs.Grammar.{is_primary, is_extended, Record, IsWellFormed}
use Rattle.langtag_scan.proofs.Laws.{spelled_once}
use Rattle.langtag_text.specs.FieldClasses.{is_language_field, is_script_field, is_region_field}
use Rattle.langtag_text.specs.Fields.{Fields}
use Rattle.langtag.specs.Definitions.{IsAlikeForm}
use Rattle.langtag_cldr.specs.Definitions.{Likely, likely_for, looked_up, or_else, filled, known_fields, add_likely, language_alone, without_script, without_region, likely_subtags, language_aliases, region_aliases, language_replaced, region_alone, region_replaced, add_likely_subtags, canonical_fields, least, remove_likely_subtags}
use Rattle.langtag_likely.proofs.Definitions.{fields_of, if_read, language_field, put_fields, maximal_record, minimal_record, IsMaximalForm, IsMinimalForm}
use Rattle.langtag_cldr.proofs.RowLaws.{aliases_listed, region_aliases_listed}
use Rattle.langtag_cldr.proofs.FieldClasses.{from_extended, known_good}
use Rattle.langtag_cldr.proofs.TableRows.{are_good, rows_listed}
use Rattle.langtag_text.proofs.FieldClasses.{from_primary}
use Rattle.langtag_likely.specs.MaximalLaws.{UndoesMinimal, UndoesMaximal, TellsAsMaximal, KeepsOthers}
use Rattle.langtag.proofs.FormLaws.{alike_forms, composed, some_form, undone}
use Rattle.langtag_likely.proofs.FormsTwice.{maximal-twice, minimal-twice, minimal-of_maximal, maximal-of_minimal, maximal-alike, minimal-alike}

-- ---- the fields

-- each field is of its class
pub record AreGood (f : Fields) : Type 0 where
  pub language : is_language_field f.language ≡ true
  pub script : is_script_field f.script ≡ true
  pub region : is_region_field f.region ≡ true

IfGood : Option Fields → Type 0
IfGood o = (f : Fields) → o ≡ Some f → AreGood f

row_good : (rows : List Likely) (key to : Fields) → list_all are_good rows ≡ true → likely_for rows key ≡ Some to → AreGood to
row_good [] key to all is = absurd cc
row_good (row ∷ rows) key to all is = grind (arith, row_good rows key to, and_parts)

-- ---- likely subtags added

either_good : (a b : Option Fields) → IfGood a → IfGood b → IfGood (or_else a b)
unfolding IfGood
either_good a b ga gb = grind arith

looked_up-good : (key : Fields) → IfGood (looked_up likely_subtags key)
unfolding IfGood
looked_up-good key = search (rules, either_good, row_good, rows_listed.good)

filled-good : (f v : Fields) → AreGood f → AreGood v → AreGood (filled f v)
filled-good f v gf gv = grind arith

mapped-good : (change : Fields → Fields) (o : Option Fields) → ((f : Fields) → AreGood f → AreGood (change f)) → IfGood o → IfGood (option_map change o)
unfolding IfGood
mapped-good change o keeps go = grind arith

added-good : (f : Fields) → AreGood f → IfGood (add_likely likely_subtags f)
added-good f good = mapped-good (filled f) (looked_up likely_subtags f) (λ v gv. filled-good f v good gv) (looked_up-good f)

-- ---- deprecated subtags replaced

language-good : (f : Fields) → AreGood f → AreGood (language_replaced f)
unfolding language_replaced
language-good f good = grind (arith, row_good language_aliases (language_alone f), aliases_listed.good)

region-good : (f : Fields) → AreGood f → AreGood (region_replaced f)
unfolding region_replaced
region-good f good = grind (arith, row_good region_aliases (region_alone f), region_aliases_listed.rows_good, known_good)

likely_added-good : (f : Fields) → AreGood f → IfGood (add_likely_subtags f)
unfolding add_likely_subtags
likely_added-good f good =
    mapped-good (filled f) (add_likely likely_subtags (canonical_fields f)) (λ v gv. filled-good f v good gv) (added-good (canonical_fields f) (region-good _ (language-good f good)))

-- ---- and removed

few-good :
    (a b c : Bool) (few most : Fields) → AreGood few → AreGood most → AreGood (cond a (language_alone few) (cond b (without_script few) (cond c (without_region few) most)))
few-good a b c few most small good = grind arith

least-good : (most : Fields) → AreGood most → AreGood (least most)
least-good most good = few-good _ _ _ (known_fields most) most (grind arith) good

-- ---- the fields of a tag

language_field-good :
    (p : List ℕ) (es : List (List ℕ)) → is_primary p ≡ true → AllByRecursion (λ s. IsTrue (is_extended s)) es → is_language_field (language_field p es) ≡ true
language_field-good p [] is all = known_good is_language_field (codes "und") p refl (from_primary p is)
language_field-good p (e ∷ []) is all = from_extended e all.0
language_field-good p (e ∷ f ∷ es) is all = language_field-good p (f ∷ es) is all.1

pub fields_of-good : (r : Record) → IsWellFormed r → AreGood (fields_of r)
fields_of-good r well = grind (arith, language_field-good)

-- ---- a tag with other fields

put_fields-well_formed : (r : Record) (f : Fields) → IsWellFormed r → AreGood f → IsWellFormed (put_fields r f)
put_fields-well_formed r f well good = grind arith

put-well_formed : (r : Record) (o : Option Fields) → IsWellFormed r → IfGood o → IsWellFormed (option_map_or (put_fields r) o r)
unfolding IfGood
put-well_formed r o well good = grind (arith, put_fields-well_formed)

if_read-good : (r : Record) (o : Option Fields) → IfGood o → IfGood (if_read r o)
unfolding IfGood
if_read-good r o good = grind arith

pub maximal_well_formed : (r : Record) → IsWellFormed r → IsWellFormed (maximal_record r)
unfolding maximal_record
maximal_well_formed r well = put-well_formed r (if_read r (add_likely_subtags (fields_of r))) well (if_read-good r (add_likely_subtags (fields_of r)) (likely_added-good (fields_of r) (fields_of-good r well)))

removed-good : (f : Fields) → AreGood f → IfGood (remove_likely_subtags f)
removed-good f good = mapped-good least (add_likely_subtags f) least-good (likely_added-good f good)

pub minimal_well_formed : (r : Record) → IsWellFormed r → IsWellFormed (minimal_record r)
unfolding minimal_record
minimal_well_formed r well = put-well_formed r (if_read r (remove_likely_subtags (fields_of r))) well (if_read-good r (remove_likely_subtags (fields_of r)) (removed-good (fields_of r) (fields_of-good r well)))

-- ---- the laws

pub maximal_settled : (old new : List ℕ) → IsMaximalForm old new → IsMaximalForm new new
maximal_settled old new is = composed maximal_record maximal_record maximal_record maximal_well_formed maximal-twice old new new is is

pub minimal_settled : (old new : List ℕ) → IsMinimalForm old new → IsMinimalForm new new
minimal_settled old new is = composed minimal_record minimal_record minimal_record minimal_well_formed minimal-twice old new new is is

pub maximal_undone : (old new : List ℕ) → IsMinimalForm old new → UndoesMaximal old new
maximal_undone old new is = λ maximal most. composed maximal_record minimal_record minimal_record maximal_well_formed minimal-of_maximal old maximal new most is

pub minimal_undone : (old new : List ℕ) → IsMaximalForm old new → UndoesMinimal old new
minimal_undone old new is = λ minimal form least most.
    undone minimal_record maximal_record maximal_record minimal_well_formed maximal-of_minimal old minimal form new least most is

pub alike_maximal : (old new : List ℕ) → IsMaximalForm old new → IsAlikeForm IsMaximalForm old new
alike_maximal old new is = alike_forms maximal_record maximal-alike old new is

pub alike_minimal : (old new : List ℕ) → IsMinimalForm old new → IsAlikeForm IsMinimalForm old new
alike_minimal old new is = alike_forms minimal_record minimal-alike old new is

pub minimal_tells : (old new : List ℕ) → IsMinimalForm old new → TellsAsMaximal old new
minimal_tells old new is = λ other minimal maximal maximal_other least most most_other. (
  λ alike.
      let (form, is_form) = some_form maximal_record new in
      let (form_other, is_other) = some_form maximal_record minimal in
      minimal_undone old maximal most new form is is_form ∙ alike_maximal new form is_form minimal form_other alike is_other
      ∙ sym (minimal_undone other maximal_other most_other minimal form_other least is_other),
  λ alike.
      alike_minimal maximal new (maximal_undone old new is maximal most) maximal_other minimal alike (maximal_undone other minimal least maximal_other most_other),
)

-- ---- what stays

others_stay :
    (r : Record) (o : Option Fields) →
    ((option_map_or (put_fields r) o r).extended ≡ r.extended) × ((option_map_or (put_fields r) o r).variants ≡ r.variants)
    × ((option_map_or (put_fields r) o r).extensions ≡ r.extensions) × ((option_map_or (put_fields r) o r).private_use ≡ r.private_use)
others_stay r o = grind arith

pub maximal_keeps : (old new : List ℕ) → IsMaximalForm old new → KeepsOthers old new
unfolding maximal_record
maximal_keeps old new is = λ r spells q also.
    let well = maximal_well_formed r spells.0 in
    let same : maximal_record r ≡ q = spelled_once (maximal_record r) q well also.0 (sym (is.parts r spells) ∙ sym also.1) in
    let stay = others_stay r (if_read r (add_likely_subtags (fields_of r))) in
    (ap (λ x. x.extended) (sym same) ∙ stay.0, ap (λ x. x.variants) (sym same) ∙ stay.1, ap (λ x. x.extensions) (sym same) ∙ stay.2, ap (λ x. x.private_use) (sym same) ∙ stay.3)

pub minimal_keeps : (old new : List ℕ) → IsMinimalForm old new → KeepsOthers old new
unfolding minimal_record
minimal_keeps old new is = λ r spells q also.
    let well = minimal_well_formed r spells.0 in
    let same : minimal_record r ≡ q = spelled_once (minimal_record r) q well also.0 (sym (is.parts r spells) ∙ sym also.1) in
    let stay = others_stay r (if_read r (remove_likely_subtags (fields_of r))) in
    (ap (λ x. x.extended) (sym same) ∙ stay.0, ap (λ x. x.variants) (sym same) ∙ stay.1, ap (λ x. x.extensions) (sym same) ∙ stay.2, ap (λ x. x.private_use) (sym same) ∙ stay.3)
