-- The grandfathered tags (RFC 5646 section 2.2.8), in the order in which section 2.1 lists them: first the irregular
-- tags, which fit no other rule of the grammar, and then the regular tags.
use Rattle.std.specs.Prelude.{ℕ, List, [], ◌∷◌, map, codes, Option, Some, None, filter, is_none}

-- a grandfathered tag: its registered spelling, and its primary language subtag if it is regular
pub record Grandfathered : Type 0 where
  pub text : List ℕ
  pub language : Option (List ℕ)

abbrev irregular_tag : List ℕ → Grandfathered
irregular_tag text = record { text = text; language = None }

abbrev regular_tag : List ℕ → List ℕ → Grandfathered
regular_tag text language = record { text = text; language = Some language }

unfoldable pub grandfathered_tags : List Grandfathered
grandfathered_tags =
    irregular_tag (codes "en-GB-oed")
    ∷ irregular_tag (codes "i-ami")
    ∷ irregular_tag (codes "i-bnn")
    ∷ irregular_tag (codes "i-default")
    ∷ irregular_tag (codes "i-enochian")
    ∷ irregular_tag (codes "i-hak")
    ∷ irregular_tag (codes "i-klingon")
    ∷ irregular_tag (codes "i-lux")
    ∷ irregular_tag (codes "i-mingo")
    ∷ irregular_tag (codes "i-navajo")
    ∷ irregular_tag (codes "i-pwn")
    ∷ irregular_tag (codes "i-tao")
    ∷ irregular_tag (codes "i-tay")
    ∷ irregular_tag (codes "i-tsu")
    ∷ irregular_tag (codes "sgn-BE-FR")
    ∷ irregular_tag (codes "sgn-BE-NL")
    ∷ irregular_tag (codes "sgn-CH-DE")
    ∷ regular_tag (codes "art-lojban") (codes "art")
    ∷ regular_tag (codes "cel-gaulish") (codes "cel")
    ∷ regular_tag (codes "no-bok") (codes "no")
    ∷ regular_tag (codes "no-nyn") (codes "no")
    ∷ regular_tag (codes "zh-guoyu") (codes "zh")
    ∷ regular_tag (codes "zh-hakka") (codes "zh")
    ∷ regular_tag (codes "zh-min") (codes "zh")
    ∷ regular_tag (codes "zh-min-nan") (codes "zh")
    ∷ regular_tag (codes "zh-xiang") (codes "zh")
    ∷ []

-- the registered spellings of the irregular tags, which are the tags of the table without a primary language subtag
unfoldable pub irregular_texts : List (List ℕ)
irregular_texts = map (λ tag. tag.text) (filter (λ tag. is_none tag.language) grandfathered_tags)
