-- The lengths and the classes of a language with its extended subtags, and what CLDR has for it.
use Rattle.langtag_scan.proofs.Prelude.{◌≡◌, ℕ, ◌<◌, ◌≤◌, true, cond, IsTrue, List, [], ◌∷◌, length, None, unwrap_or, refl, sym, ap, ◌∙◌, arith, length-append, common_steps}
use Rattle.langtag_scan.specs.Grammar.{Record, is_extended, is_primary, language_part}
use Rattle.langtag_scan.proofs.Laws.{of_primary, extended_three}
use Rattle.langtag.specs.Definitions.{IsLanguage, SpellsLanguage}
use Rattle.langtag_language.specs.Decided.{is_language}
use Rattle.langtag_language.proofs.Rules.{IsLanguage-from_test}
use Rattle.langtag_text.proofs.FieldClasses.{from_primary}
use Rattle.langtag_text.proofs.Letters.{primary_length}
use Rattle.langtag_text.specs.FieldClasses.{is_language_field}
use Rattle.langtag_text.specs.Fields.{Fields}
use Rattle.langtag_text.proofs.Alike.{same_fields}
use Rattle.langtag_cldr.specs.Definitions.{or_other}
use Rattle.langtag_likely.specs.Marked.{as_read, mark_of, with_mark}
use Rattle.langtag_likely.proofs.MarkLaws.{read_keeps, read_region}
use Rattle.langtag_cldr.proofs.RowLaws.{all_long}
use Rattle.langtag_parent.specs.Parent.{fields_of, is_empty, likely_script}

-- ---- a language

pub record IsOfLanguage (text : List ℕ) : Type 0 where
  pub class : length text ≤ 3 → is_language_field text ≡ true
  pub some : 1 ≤ length text
  pub most : length text ≤ 15

extended_four : (e : List ℕ) → is_extended e ≡ true → length (45 ∷ e) ≡ 4
extended_four e h = let k = extended_three e h in omega arith

spelled : (p : List ℕ) (es : List (List ℕ)) (text : List ℕ) → SpellsLanguage p es text → IsOfLanguage text
spelled p [] text spells = grind (arith, common_steps, of_primary, primary_length, from_primary, spells.joined, spells.first)
spelled p (a ∷ es) text spells = grind (arith, common_steps, length-append, primary_length, of_primary, extended_four, spells)

pub of_language : (text : List ℕ) → IsLanguage text → IsOfLanguage text
of_language text (p, es, spells) = spelled p es text spells

pub of_language_test : (text : List ℕ) → IsTrue (is_language text) → IsOfLanguage text
of_language_test text is = of_language text (IsLanguage-from_test text is)

pub of_primary_test : (text : List ℕ) → IsTrue (is_primary text) → IsOfLanguage text
of_primary_test text is = grind (arith, common_steps, of_primary, primary_length, from_primary)

-- ---- the fields of a tag as it is read

marked_language : (r : Record) (mark : List ℕ) → cond (is_empty mark) (language_part r) r.primary ≡ language_part (with_mark r mark)
marked_language r [] = refl
marked_language r (b ∷ mark) = refl

pub read_fields :
    (r : Record) (f : Fields) (mark : List ℕ) → mark ≡ mark_of r → f.language ≡ cond (is_empty mark) (language_part r) r.primary → f.script ≡ unwrap_or r.script [] →
    f.region ≡ or_other (unwrap_or r.region []) mark → f ≡ fields_of (as_read r)
read_fields r f mark is language script region =
    same_fields f (fields_of (as_read r)) (language ∙ marked_language r mark ∙ ap (λ m. language_part (with_mark r m)) is) (script ∙ ap (λ s. unwrap_or s []) (sym (read_keeps r).script))
    (region ∙ read_region r mark is)

-- ---- a language that is longer than those of CLDR

pub likely_none : (language region : List ℕ) → 3 < length language → likely_script language region ≡ None
likely_none language region long = grind (arith, all_long)
