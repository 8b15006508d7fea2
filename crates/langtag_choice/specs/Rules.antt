-- Rules of language matching (UTS #35, part 1, section 'Language Matching'): the distance of two languages, or of two scripts.
use Rattle.std.specs.Prelude.{ℕ, ◌+◌, ◌*◌, ◌-◌, ◌&&◌, Bool, List, [], ◌∷◌, fold, if◌then◌else◌}
use Rattle.langtag_cldr.specs.Definitions.{are_alike_fields}
use Rattle.langtag_text.specs.Fields.{Fields}

-- a rule: the distance from the desired fields to the supported fields
pub record Rule : Type 0 where
  pub desired : Fields
  pub supported : Fields
  pub distance : ℕ

-- ---- how the lists of data are read

-- the number that decimal digits stand for
abbrev pub decimal_number : List ℕ → ℕ
decimal_number digits = fold (λ number digit. number * 10 + (digit - 48)) 0 digits

-- the rules in a list of words, three for each rule: two languages, and their distance
abbrev pub rules_of_languages : List (List ℕ) → List Rule
rules_of_languages [] = []
rules_of_languages (d ∷ []) = []
rules_of_languages (d ∷ s ∷ []) = []
rules_of_languages (d ∷ s ∷ n ∷ words) =
    record { desired = record { language = d; script = []; region = [] }; supported = record { language = s; script = []; region = [] }; distance = decimal_number n }
    ∷ rules_of_languages words

-- the rules in a list of words, five for each rule: a language and a script, another language and script, and their
-- distance
abbrev pub rules_of_scripts : List (List ℕ) → List Rule
rules_of_scripts [] = []
rules_of_scripts (d ∷ []) = []
rules_of_scripts (d ∷ a ∷ []) = []
rules_of_scripts (d ∷ a ∷ s ∷ []) = []
rules_of_scripts (d ∷ a ∷ s ∷ b ∷ []) = []
rules_of_scripts (d ∷ a ∷ s ∷ b ∷ n ∷ words) =
    record { desired = record { language = d; script = a; region = [] }; supported = record { language = s; script = b; region = [] }; distance = decimal_number n }
    ∷ rules_of_scripts words

-- ---- the rule for two sets of fields

abbrev pub fits : Fields → Fields → Rule → Bool
fits desired supported rule = are_alike_fields rule.desired desired && are_alike_fields rule.supported supported

-- the distance by the rule for these fields, or the given distance if there is no such rule
abbrev pub distance_by : List Rule → ℕ → Fields → Fields → ℕ
distance_by [] otherwise desired supported = otherwise
distance_by (rule ∷ rules) otherwise desired supported =
    if fits desired supported rule then rule.distance else distance_by rules otherwise desired supported
