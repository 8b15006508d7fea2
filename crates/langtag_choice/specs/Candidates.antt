-- The candidate for a range, which one more tag may replace. Only contracts of private functions cite this page.
use Rattle.std.specs.Prelude.{◌≡◌, ◌⊎◌, ℕ, true, List, ◌∷◌, [], Option, Some, None, option_map}
use Rattle.langtag_scan.specs.Prelude.{ForSome}
use Rattle.langtag_range.specs.Definitions.{basic_text}
use Rattle.langtag_cldr.specs.Definitions.{field_texts, matching_form}
use Rattle.langtag_choice.specs.AsRead.{lost_as_read}
use Rattle.langtag_choice.specs.KnownTexts.{is_known, known_text}
use Rattle.langtag_choice.specs.Near.{wish_element}
use Rattle.langtag_choice.specs.Nearness.{lost, unlikely_kept}
use Rattle.langtag_choice.specs.RegionWidth.{width_of_forms}
use Rattle.langtag_choice.specs.Serves.{IsAtMost, rank, serves}
use Rattle.langtag_choice.specs.Transformed.{unasked_transform}
use Rattle.langtag_choice.specs.Variants.{lacking}
use Rattle.langtag_choice.specs.declared.candidate.Candidate.{Candidate}
use Rattle.langtag_choice.specs.declared.candidate.Service.{Service}
use Rattle.langtag_choice.specs.declared.candidate.Service.TheVariants.{Near, Acceptable, LookUp}
use Rattle.langtag_choice.specs.declared.known_tag.KnownTag.{KnownTag}
use Rattle.langtag_choice.specs.declared.wish.Wish.{Wish}

abbrev pub service_number : Service → ℕ
service_number Near = 0
service_number Acceptable = 1
service_number LookUp = 2

-- what decides between the candidate and others at its distance
unfoldable pub ties_of : Candidate → List ℕ
ties_of c =
    lacking (basic_text c.range.now) c.tag.now ∷ unasked_transform (basic_text c.range.now) c.tag.now ∷ lost_as_read (basic_text c.range.now) c.tag.now ∷
    lost (basic_text c.range.now) c.tag.now ∷ width_of_forms (matching_form (basic_text c.range.now)) (option_map field_texts c.form) ∷
    unlikely_kept c.unlikely (option_map field_texts c.form) ∷ c.index ∷ []

abbrev pub rank_of : Candidate → List ℕ
rank_of c = service_number c.rank.service ∷ c.rank.lack ∷ c.rank.place ∷ c.rank.distance ∷ ties_of c

-- a candidate was found, and its rank is at most this one
abbrev pub IsNotAfter : Option Candidate → List ℕ → Type 0
IsNotAfter None rank = ⊥
IsNotAfter (Some c) rank = IsAtMost (rank_of c) rank

-- the candidate did not get worse: if the rank of the old candidate is at most r, so is the rank of the new candidate
abbrev pub Keeps : Option Candidate → Option Candidate → Type 0
Keeps old new = (r : List ℕ) → IsNotAfter old r → IsNotAfter new r

-- the candidate is the tag at an index, for the range of a wish
pub record IsOf (wish : Wish) (text : List ℕ) (there : ℕ) (c : Candidate) : Type 0 where
  pub place : c.rank.place ≡ wish.place
  pub index : c.index ≡ there
  pub range : (wish_element wish).range ≡ basic_text c.range.now
  pub tag : c.tag.now ≡ text
  pub served : serves (wish_element wish) text ≡ true
  pub same_rank : rank_of c ≡ rank wish.place (wish_element wish) there text

-- the candidate is the entry at an index, and it is the tag there if what was kept of the tag is true
abbrev pub IsOfKnown : Wish → KnownTag → ℕ → Candidate → Type 0
IsOfKnown wish tag there c = (c.rank.place ≡ wish.place) × (c.index ≡ there) × (is_known tag ≡ true → IsOf wish (known_text tag) there c)

-- `old` and `new` are the candidates before and after the tag at an index was tried for a range
pub record Takes (wish : Wish) (tag : KnownTag) (index : ℕ) (old new : Option Candidate) : Type 0 where
  pub keeps : Keeps old new
  pub covers : is_known tag ≡ true → serves (wish_element wish) (known_text tag) ≡ true → IsNotAfter new (rank wish.place (wish_element wish) index (known_text tag))
  pub from : ForSome new (λ c. (old ≡ Some c) ⊎ IsOfKnown wish tag index c)
