-- The numbers that answer for the kind of a text or a range, where a text stops, and what the spans of its parts say of it.
use Rattle.langtag_scan.proofs.Prelude.{ℕ, List, arith, ◌≡◌, false, IsTrue, ◌+◌, length, min, ◌-◌, [], take, unwrap_or, ap, ◌∙◌, nat_tests, eqb_tells}
use Rattle.langtag_scan.specs.Grammar.{IsNormal, IsPrivate, IsIrregular, IsTag, IsStop, IsViableLength, HasEnds, EachRecord}
use Rattle.langtag.proofs.KeptFound.{one_kind}
use Rattle.langtag_scan.proofs.Laws.{tag_normal, tag_private, tag_of_irregular, stop_at, normal_found, private_found, tag_found, normal_no_private, ends_each, ends_ordered, ends_whole, normal_from_ends, normal_spelled}
use Rattle.langtag_c.specs.Answers.{IsKind, IsRangeKind}
use Rattle.langtag_match.specs.Range.{is_language_range, is_basic_range}
use Rattle.langtag_match.proofs.BasicForms.{basic_ranges}
use Rattle.langtag_scan.specs.declared.ends.Ends.{Ends}
use Rattle.langtag.proofs.PartRules.{language_found, script_found, region_found, variants_found, extensions_found, private_use_found}
use Rattle.langtag_c.proofs.FoundExtension.{between_text}
use Rattle.langtag_c.specs.PartSpans.{spans_at, ArePartsOf}

pub kind_none : (t : List ℕ) → (IsTag t → ⊥) → IsKind t 0
kind_none t none = grind (arith, tag_normal, tag_private, tag_of_irregular)

pub kind_normal : (t : List ℕ) → IsNormal t → IsKind t 1
kind_normal t is_so = grind (arith, tag_normal, one_kind)

pub kind_private : (t : List ℕ) → IsPrivate t → IsKind t 2
kind_private t private = grind (arith, tag_private, one_kind)

pub kind_irregular : (t : List ℕ) → IsIrregular t → IsKind t 3
kind_irregular t is_so = grind (arith, tag_of_irregular, one_kind)

-- a tag of neither of the other kinds is irregular
pub irregular_left : (t : List ℕ) → IsTag t → (IsNormal t → ⊥) → (IsPrivate t → ⊥) → IsIrregular t
unfolding IsTag
irregular_left t tag no_normal no_private = grind (arith, nat_tests)

-- ---- the number that answers for the kind of a language range

pub kind_no_range : (text : List ℕ) → is_language_range text ≡ false → IsRangeKind text 0
kind_no_range text none = grind (arith, basic_ranges)

pub kind_basic : (text : List ℕ) → IsTrue (is_basic_range text) → IsRangeKind text 1
kind_basic text basic = grind (arith, basic_ranges)

pub kind_extended : (text : List ℕ) → IsTrue (is_language_range text) → is_basic_range text ≡ false → IsRangeKind text 2
kind_extended text range other = grind (arith, basic_ranges)

pub ruleset range_kinds = (kind_no_range, kind_basic, kind_extended)

-- ---- where a text stops, by how much of it is viable

-- one byte past what is viable, where there is one, and else at the end
pub stop_after_viable : (t : List ℕ) (m : ℕ) → IsViableLength t m → IsStop t (min (length t) (m + 1))
stop_after_viable t m v = grind (arith, nat_tests, eqb_tells m (length t), stop_at t (m + 1))

-- ---- what the spans of the parts say of the text

pub spans_parts : (text : List ℕ) (ends : Ends) → HasEnds text ends → EachRecord text (λ r. ArePartsOf text r (spans_at ends))
spans_parts text ends h r spells =
    let order = ends_ordered text ends h in
    record {
      language = (let size : 0 + ends.language - 0 ≡ ends.language = omega arith in ap (λ n. take n text) size) ∙ language_found text ends h r spells;
      script = between_text text ends.language ends.script order.script ∙ ap (λ o. unwrap_or o []) (script_found text ends h r spells);
      region = between_text text ends.script ends.region order.region ∙ ap (λ o. unwrap_or o []) (region_found text ends h r spells);
      variants = between_text text ends.region ends.variants order.variants ∙ variants_found text ends h r spells;
      extensions = between_text text ends.variants ends.extensions order.extensions ∙ extensions_found text ends h r spells;
      private_use = between_text text ends.extensions ends.whole order.private_use ∙ ap (λ o. unwrap_or o []) (private_use_found text ends h r spells);
    }

-- ---- what the recogniser's answer says of a text, for the functions that hand it on

pub ruleset parse_laws =
    (kind_none, kind_normal, kind_private, kind_irregular, irregular_left, spans_parts, tag_found, normal_found, private_found, tag_normal, tag_private, normal_spelled, normal_from_ends, ends_ordered, normal_no_private, ends_each, ends_whole)
