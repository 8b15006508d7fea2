-- What the recogniser knows after some bytes of a text: what may follow, and which part of the tag has ended (RFC 5646
-- section 2.1). Only contracts of private functions cite this page.
use Rattle.std.specs.Prelude.{ℕ, ◌+◌, ◌==◌, ◌&&◌, ◌||◌, not, nat_lt, Bool, true, false, List, [], ◌∷◌, ◌++◌, fold, Option, Some, None, if◌then◌else◌, position, bytes_eq, option_map, is_none}
use Rattle.langtag_scan.specs.Prelude.{option_map_or}
use Rattle.langtag_scan.specs.Case.{fold_byte}
use Rattle.langtag_scan.specs.Class.{is_letter, is_digit}
use Rattle.langtag_scan.specs.Irregular.{folded_texts, is_prefix}
use Rattle.langtag_scan.specs.Kind.{Kind, Empty, classes_by, kind_after}
use Rattle.langtag_scan.specs.Stage.{Stage, Start, Language, Extended, AfterScript, AfterRegion, AfterVariant, AfterSingleton, InExtension, AfterMark, InPrivate, AfterFirstMark, InPrivateTag, after_by, may_end}
use Rattle.langtag_scan.specs.Subtags.{is_hyphen}
use Rattle.langtag_scan.specs.declared.state.Ending.{Ending}
use Rattle.langtag_scan.specs.declared.state.Ending.TheVariants.{NoTag, Normal, PrivateUse, Irregular}

-- the subtag that is being read: the stage before it, the kind of its bytes, and their number
pub record Begun : Type 0 where
  pub stage : Stage
  pub kind : Kind
  pub size : ℕ

-- `begun` is the subtag that is being read, as long as a normal tag or a private use tag is possible; `irregular` has
-- all bytes in lowercase, as long as an irregular tag is possible
pub record Position : Type 0 where
  pub begun : Option Begun
  pub irregular : Option (List ℕ)

abbrev pub fresh : Stage → Begun
fresh stage = record { stage = stage; kind = Empty; size = 0 }

abbrev pub nothing_read : Position
nothing_read = record { begun = Some (fresh Start); irregular = Some [] }

-- ---- one byte more

abbrev pub is_start : Stage → Bool
is_start Start = true
is_start _ = false

-- whether one more byte may belong to the subtag: it has at most eight letters and digits, and the first subtag of a
-- tag has only letters
abbrev pub may_grow : Begun → ℕ → Bool
may_grow s b = nat_lt s.size 8 && (is_letter b || (is_digit b && not (is_start s.stage)))

-- the stage after the subtag, or none if no such subtag is allowed after `s.stage`
abbrev pub stage_after : Begun → Option Stage
stage_after s = after_by s.stage (classes_by s.kind s.size)

-- what a subtag that is being read becomes with one more byte: a hyphen ends it, and a letter or digit is added to it
abbrev pub begun_after : ℕ → Begun → Option Begun
begun_after b s =
    if is_hyphen b then option_map fresh (stage_after s)
    else if may_grow s b then Some (record { stage = s.stage; kind = kind_after s.kind b; size = s.size + 1 })
    else None

-- the index of the first irregular tag that begins with a prefix
abbrev pub possible_index : List ℕ → Option ℕ
possible_index p = position (is_prefix p) folded_texts

abbrev pub irregular_after : ℕ → List ℕ → Option (List ℕ)
irregular_after b p = option_map (λ k. p ++ fold_byte b ∷ []) (possible_index (p ++ fold_byte b ∷ []))

abbrev pub position_after : Position → ℕ → Position
position_after p b = record {
  begun = option_map_or (begun_after b) p.begun None;
  irregular = option_map_or (irregular_after b) p.irregular None;
}

-- the position after the bytes of a text
abbrev pub position_of : List ℕ → Position
position_of text = fold position_after nothing_read text

-- ---- what a position says

-- no tag begins with the bytes that were read
abbrev pub is_dead : Position → Bool
is_dead p = is_none p.begun && is_none p.irregular

-- the index, in the order of `Ends`, of the part that ends after a stage. The private use part has the last index,
-- since it ends where the text ends
abbrev pub place_of : Stage → ℕ
place_of Start = 5
place_of (Language taken) = 0
place_of (Extended taken) = 0
place_of AfterScript = 1
place_of AfterRegion = 2
place_of AfterVariant = 3
place_of AfterSingleton = 4
place_of InExtension = 4
place_of AfterMark = 5
place_of InPrivate = 5
place_of AfterFirstMark = 5
place_of InPrivateTag = 5

-- the index of the part that ended before the last byte, if the last byte is a hyphen; otherwise the last index
abbrev pub part_before : Position → ℕ
part_before p = option_map_or (λ s. if s.size == 0 then place_of s.stage else 5) p.begun 5

-- what the text is if it ends after a stage
abbrev pub ending_after : Stage → Ending
ending_after InPrivateTag = PrivateUse
ending_after stage = Normal (place_of stage)

-- the irregular tag that equals the text, or no tag
abbrev pub irregular_ending : List ℕ → Ending
irregular_ending p = option_map_or Irregular (position (bytes_eq p) folded_texts) NoTag

-- what the text is if it ends at a position
abbrev pub ending_of : Position → Ending
ending_of p =
    option_map_or (λ stage. if may_end stage then ending_after stage else option_map_or irregular_ending p.irregular NoTag)
    (option_map_or stage_after p.begun None) (option_map_or irregular_ending p.irregular NoTag)
