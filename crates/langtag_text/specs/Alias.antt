-- The form of CLDR's aliases: a text and its replacement (UTS #35, part 1, Annex C).
use Rattle.std.specs.Prelude.{ℕ, ◌&&◌, List, [], ◌∷◌, Option, find, option_map}
use Rattle.langtag_scan.specs.Grammar.{are_alike}

-- a text that is replaced, and its replacement
pub record Alias : Type 0 where
  pub old : List ℕ
  pub new : List ℕ

-- a type of a key that is replaced, and its replacement
pub record TypeAlias : Type 0 where
  pub key : List ℕ
  pub old : List ℕ
  pub new : List ℕ

-- the aliases in a list of texts, in which each text is followed by its replacement
abbrev pub aliases_of : List (List ℕ) → List Alias
aliases_of [] = []
aliases_of (old ∷ []) = []
aliases_of (old ∷ new ∷ texts) = record { old = old; new = new } ∷ aliases_of texts

-- the aliases in a list of texts, three for each alias: a key, a type, and the replacement of the type
abbrev pub type_aliases_of : List (List ℕ) → List TypeAlias
type_aliases_of [] = []
type_aliases_of (key ∷ []) = []
type_aliases_of (key ∷ old ∷ []) = []
type_aliases_of (key ∷ old ∷ new ∷ texts) = record { key = key; old = old; new = new } ∷ type_aliases_of texts

-- the replacement of a text, ignoring case
abbrev pub alias_for : List Alias → List ℕ → Option (List ℕ)
alias_for aliases text = option_map (λ alias. alias.new) (find (λ alias. are_alike alias.old text) aliases)

-- the replacement of the type of a key, ignoring case
abbrev pub type_alias_for : List TypeAlias → List ℕ → List ℕ → Option (List ℕ)
type_alias_for aliases key type = option_map (λ alias. alias.new) (find (λ alias. are_alike alias.key key && are_alike alias.old type) aliases)
