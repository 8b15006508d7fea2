-- The languages that are near another, by their numbers. Only contracts of private functions cite this page.
use Rattle.std.specs.Prelude.{◌≡◌, ◌<◌, ◌≤◌, ◌+◌, ℕ, ◌==◌, Bool, true, false, List, length, map, Option, Some}
use Rattle.langtag_scan.specs.Grammar.{list_any, are_alike, are_letters}
use Rattle.langtag_text.specs.Fields.{Fields}
use Rattle.langtag_choice.specs.Distance.{language_distance}
use Rattle.langtag_choice.specs.MatchingData.{language_rules}
use Rattle.langtag_choice.specs.Pairs.{language_pair}
use Rattle.langtag_text.specs.Numbers.{letter_number}

abbrev pub is_among_numbers : List ℕ → ℕ → Bool
is_among_numbers numbers number = list_any (λ n. n == number) numbers

-- the keys of the rules for languages
abbrev pub rule_keys : List ℕ
rule_keys = map (λ rule. language_pair rule.desired rule.supported) language_rules

-- all keys of rules from a number on, as far as 32768 numbers go, are among these keys
abbrev pub HasRuleKeys : ℕ → List ℕ → Type 0
HasRuleKeys from keys = (n : ℕ) → n < 32768 → is_among_numbers keys (from + n) ≡ false → is_among_numbers rule_keys (from + n) ≡ false

-- the language of the fields has at most three letters, and this number
abbrev pub HasNumber : ℕ → Fields → Type 0
HasNumber number fields = (are_letters fields.language ≡ true) × (letter_number fields.language ≡ number) × (length fields.language ≤ 3)

-- the language of the fields has this number, or else it has more than three letters, and the number is 0
abbrev pub HasNumberOrNone : ℕ → Fields → Type 0
HasNumberOrNone number fields = (length fields.language ≤ 3 → HasNumber number fields) × (3 < length fields.language → number ≡ 0)

-- the languages of two forms, if there are two, are equal
abbrev pub HaveOneLanguage : Option Fields → Option Fields → Type 0
HaveOneLanguage a b = (d s : Fields) → a ≡ Some d → b ≡ Some s → are_alike d.language s.language ≡ true

-- two languages, given by their numbers, differ, and there is no rule for them
abbrev pub AreFar : ℕ → ℕ → Type 0
AreFar desired supported = (d s : Fields) → HasNumberOrNone desired d → HasNumber supported s → language_distance d s ≡ 80
