-- What the finding that a tag keeps says of its text, and of each text that is alike.
use Rattle.langtag_scan.proofs.Prelude.{◌≡◌, ◌↔◌, ℕ, ◌<◌, List, Some, IsTrue, sym, subst, arith, ◌∙◌, IsAscii, IsUtf8, common_steps}
use Rattle.langtag_scan.specs.Grammar.{Alike, IsFoundOf, is_normal, is_private_use, IsNormal, IsPrivate, IsIrregularAt, IsIrregular, IsTag, are_alike-decides, HasEnds}
use Rattle.langtag_scan.specs.Found.{irregular_index}
use Rattle.langtag_scan.specs.declared.finding.Finding.{Finding}
use Rattle.langtag_scan.proofs.Laws.{alike_parts, alike_normal, alike_private, alike_irregular, tag_found, normal_found, private_found, found_had, irregular_fold, normal_no_private, normal_no_irregular, private_no_irregular, offsets_kept, IsAscii-tag, IsUtf8-tag}
use Rattle.langtag_private.proofs.Rules.{IsPrivate-from_test}
use Rattle.langtag.specs.Kinds.{IsOfKind, AreOfOneKind}
use Rattle.langtag.specs.Recognised.{finding_of}
use Rattle.langtag.specs.Typed.{IsTypedAs, kind_of_tag}
use Rattle.langtag.specs.declared.recognised.Recognised.{Recognised}
use Rattle.langtag.specs.declared.typed_lang_tag.TypedLangTag.{TypedLangTag}
use Rattle.langtag_scan.specs.declared.ends.Ends.{Ends}
use Rattle.langtag_scan.specs.declared.finding.Finding.TheVariants.{Normal, PrivateUse, Irregular}

-- the text is a tag, of the kind that was found
pub record TellsKind (text : List ℕ) (found : Finding) : Type 0 where
  pub tag : IsTag text
  pub normal : IsTrue (is_normal found) ↔ IsNormal text
  pub private_use : IsTrue (is_private_use found) ↔ IsPrivate text

pub found_kept : (text : List ℕ) (found : Finding) → ∥ IsFoundOf text found ∥₁ → TellsKind text found
found_kept text found merely =
    grind (arith, common_steps, found_had text found merely, tag_found text found, normal_found text found, private_found text found)

-- ---- what is kept of what the recogniser found

-- an irregular text, at the index that was found
pub record IsAtIndex (text : List ℕ) (index : ℕ) : Type 0 where
  pub within : index < 26
  pub is : IsIrregularAt index text

pub irregular_found : (text : List ℕ) (found : Finding) (index : ℕ) → IsFoundOf text found → Some index ≡ irregular_index found → IsAtIndex text index
irregular_found text found index kept at = grind (arith, common_steps, irregular_fold text)

-- what is kept of a text holds of it
pub kept_as : (text : List ℕ) (kept same : Recognised) → ∥ IsFoundOf text (finding_of kept) ∥₁ → kept ≡ same → IsFoundOf text (finding_of same)
kept_as text kept same merely is = subst (λ found. IsFoundOf text (finding_of found)) is (found_had text (finding_of kept) merely)

-- the variant of a typed tag says of which kind its text is
pub typed_kind : (text : List ℕ) (typed : TypedLangTag) → IsTypedAs text typed → IsOfKind text (kind_of_tag typed)
unfolding IsIrregular
typed_kind text typed is = grind (arith, common_steps, offsets_kept, IsPrivate-from_test)

-- no text is of two kinds
pub ruleset one_kind = (normal_no_private, normal_no_irregular, private_no_irregular)

-- alike texts are of one kind
pub alike_kinds : (t u : List ℕ) → Alike t u → AreOfOneKind t u
alike_kinds t u alike =
    grind (arith, common_steps, alike_normal t u alike, alike_normal u t (sym alike), alike_private t u alike, alike_private u t (sym alike), alike_irregular)

-- what is so of a text that an equal text has
pub ruleset alike_laws = (are_alike-decides, alike_kinds, alike_parts)

-- ---- what was found of a tag holds of each text that is alike

-- the kind with its ends, or its index
pub found_alike : (t u : List ℕ) (found : Finding) → Alike t u → ∥ IsFoundOf t found ∥₁ → ∥ IsFoundOf u found ∥₁
unfolding HasEnds
found_alike t u found alike merely = ∣ by found (found_had t found merely) ∣₁
  where
    by : (found : Finding) → IsFoundOf t found → IsFoundOf u found
    by (Normal ends) (r, spells, at) = let other = alike_parts t u alike r spells in (other.0, other.1, at ∙ other.3)
    by PrivateUse h = alike_private t u alike h
    by (Irregular k) h = alike_irregular k t u alike h

-- the ends of the parts of a normal tag
pub ends_alike : (t u : List ℕ) (ends : Ends) → Alike t u → ∥ HasEnds t ends ∥₁ → ∥ HasEnds u ends ∥₁
ends_alike t u ends alike merely = found_alike t u (Normal ends) alike merely

-- the bytes of a tag are UTF-8
pub utf8_found : (text : List ℕ) (found : Finding) → IsFoundOf text found → IsUtf8 text
utf8_found text found is = IsUtf8-tag text (tag_found text found is)

-- the text of a tag is ASCII
pub ascii_found : (text : List ℕ) (found : Finding) → ∥ IsFoundOf text found ∥₁ → IsAscii text
ascii_found text found merely = IsAscii-tag text (found_kept text found merely).tag
