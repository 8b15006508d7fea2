-- What decides among tags at the same distance from a range.
use Rattle.std.specs.Prelude.{ℕ, ◌-◌, Bool, ◌==◌, ◌&&◌, ◌||◌, not, if◌then◌else◌, List, codes, length, take, drop, Option, None, Some}
use Rattle.langtag_scan.specs.Grammar.{option_map_or, are_alike}
use Rattle.langtag_cldr.specs.Definitions.{without_region, matching_form, suffices}
use Rattle.langtag_text.specs.Fields.{Fields}
use Rattle.langtag_range.specs.Definitions.{ends_subtag, ends_in_single}

-- ---- the part of a range that lookup keeps (RFC 4647 section 3.4)

-- whether a tag equals a range, or equals the text before one of the range's hyphens and does not end in a subtag of a
-- single character
abbrev pub is_fallback : List ℕ → List ℕ → Bool
is_fallback range tag =
    are_alike (take (length tag) range) tag && (ends_subtag (drop (length tag) range) && ((length tag == length range) || not (ends_in_single tag)))

-- the number of bytes of a range that lookup keeps when it finds a tag, or 0 if it does not find the tag
unfoldable pub kept : List ℕ → List ℕ → ℕ
kept range tag = if is_fallback range tag then length tag else 0

-- the number of bytes that lookup removes from a range to find a tag, or all bytes of the range if it does not find the tag
abbrev pub lost : List ℕ → List ℕ → ℕ
lost range tag = length range - kept range tag

-- ---- which of several tags is most likely

-- whether a matching form has this language, the script Latn and this region
abbrev pub is_form : List ℕ → List ℕ → Fields → Bool
is_form language region form = are_alike language form.language && (are_alike (codes "Latn") form.script && are_alike region form.region)

-- whether a form is one of CLDR's paradigm locales whose region is not the likely region: en-GB, es-419 and pt-PT
abbrev pub is_paradigm : Fields → Bool
is_paradigm form = is_form (codes "en") (codes "GB") form || (is_form (codes "es") (codes "419") form || is_form (codes "pt") (codes "PT") form)

-- how unlikely a form is: 0 if its region is the likely region for its language and script, 1 for a paradigm locale,
-- and 2 for any other form
abbrev pub unlikely_form : Fields → ℕ
unlikely_form form = if suffices form (without_region form) then 0 else if is_paradigm form then 1 else 2

-- how unlikely a form is, and 2 if there is none
unfoldable pub unlikely_of : Option Fields → ℕ
unlikely_of form = option_map_or unlikely_form form 2

unfoldable pub unlikely : List ℕ → ℕ
unlikely tag = unlikely_of (matching_form tag)

-- how unlikely a form is: what was kept of it, or else what it is
abbrev pub unlikely_kept : Option ℕ → Option Fields → ℕ
unlikely_kept None form = unlikely_of form
unlikely_kept (Some kept) form = kept
