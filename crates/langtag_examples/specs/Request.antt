-- The language tag in which a request is answered.
use Rattle.std.specs.Prelude.{◌≡◌, ◌⊎◌, ℕ, List, Option, None, Some}
use Rattle.std.specs.Borrow.{Bor}
use Rattle.langtag.specs.declared.lang_tag.LangTag.{LangTag}
use Rattle.langtag_match.specs.AcceptLanguage.{AreAccepted, IsFirstBad, range_texts}
use Rattle.langtag_match.specs.LookUp.{choice}
use Rattle.langtag_match.specs.declared.accept_language_error.ElementPart.{ElementPart}
use Rattle.langtag_match.specs.declared.weighted_range.WeightedRange.{WeightedRange}

-- the tag that lookup finds for the header, or the default if there is no header or it has a malformed element
abbrev pub IsTagFor : List LangTag → LangTag → Option (Bor (List ℕ)) → LangTag → Type 0
IsTagFor tags default None tag = tag ≡ default
IsTagFor tags default (Some header) tag =
    ((ordered : List WeightedRange) × AreAccepted header.now ordered × (tag ≡ choice tags default (range_texts ordered)))
    ⊎ ((index offset : ℕ) × (part : ElementPart) × IsFirstBad header.now index offset part × (tag ≡ default))
