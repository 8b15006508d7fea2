-- The locale to format with: a tag that was chosen for a range, with the region and the keywords that the range asks for (UTS #35,
-- part 1, sections 'Unicode Locale Identifier' and 'Likely Subtags').
use Rattle.std.specs.Prelude.{◌≡◌, ℕ, ◌≤◌, Bool, not, ◌&&◌, ◌||◌, ◌==◌, false, true, List, [], ◌∷◌, ◌++◌, ◌⊎◌, Some, codes, if◌then◌else◌, length, unwrap_or}
use Rattle.langtag_scan.specs.Prelude.{list_any, option_map_or}
use Rattle.langtag_scan.specs.Grammar.{are_alike, fold_text, EachRecord, IsNormal, IsTag, Record, spell}
use Rattle.langtag.specs.Definitions.{IsGrandfathered, capital_text}
use Rattle.langtag_cldr.specs.Definitions.{add_likely_subtags, known, language_alone, or_else}
use Rattle.langtag_text.specs.Fields.{Fields, subtag_of}
use Rattle.langtag_keyword.specs.Edit.{with_changed_u}
use Rattle.langtag_keyword.specs.Form.{has_subdivision, is_before, keyword_form, keys_in_order, unicode_value}
use Rattle.langtag_keyword.specs.Keywords.{before_key, is_key, subtags_of}
use Rattle.langtag_likely.specs.Maximal.{fields_of, is_read}
use Rattle.langtag_posix.specs.Posix.{IsTagOfName, NamesTag}
use Rattle.langtag_likely.specs.Marked.{as_read}
use Rattle.langtag_locale.specs.Locale.{IsReadLocale}
use Rattle.langtag_locale.specs.LocaleForm.{IsLocaleForm, IsWholeForm, identifier_form, other_region, record_fields}

-- ---- the range

-- a text is a tag, and this is a Unicode locale identifier, as it is read, that has the form of the tag
pub record HasLocale (text locale : List ℕ) : Type 0 where
  pub is_tag : IsTag text
  pub is_locale : IsReadLocale locale
  pub same_form : (form : List ℕ) → IsLocaleForm locale (Some form) → IsWholeForm text (Some form)

-- a text has no form, or is not a tag
abbrev pub HasNoLocale : List ℕ → Type 0
HasNoLocale text = (locale : List ℕ) → HasLocale text locale → ⊥

-- the range is the name of a POSIX locale, and this is its tag, which has at most 288 bytes
pub record IsNameOf (range tag : List ℕ) : Type 0 where
  pub named : NamesTag range
  pub is_tag : IsTagOfName range tag
  pub few : length tag ≤ 288

-- a Unicode locale identifier for a range: that of the range as a tag or, if it has none, that of the range as a name, as
-- `de_AT`
abbrev pub IsLocaleOf : List ℕ → List ℕ → Type 0
IsLocaleOf range locale = HasLocale range locale ⊎ (HasNoLocale range × ((tag : List ℕ) × IsNameOf range tag × HasLocale tag locale))

-- ---- what a range asks for

-- a region, or the empty text, and the subtags of `u`
pub record Wish : Type 0 where
  pub region : List ℕ
  pub unicode : List (List ℕ)

-- what a Unicode locale identifier asks for: the region of its form, and its keywords; `ZZ` counts as no region
abbrev pub wish_of : Record → Wish
wish_of r = record { region = known (codes "ZZ") (identifier_form r.variants (record_fields (as_read r))).region; unicode = subtags_of 117 r }

-- what is asked of a tag: if its language is `und`, its region stays
abbrev pub wish_for : Record → Wish → Wish
wish_for r w = record { region = if are_alike r.primary (codes "und") then [] else w.region; unicode = w.unicode }

-- ---- the region and the script

-- the region that a record gets, or the empty text if its region stays
abbrev pub new_region : Record → List ℕ → List ℕ
new_region r region = if are_alike (unwrap_or r.region []) region then [] else region

-- the script of fields, or their likely script
abbrev pub likely_script : Fields → List ℕ
likely_script f = option_map_or (λ most. most.script) (add_likely_subtags f) f.script

-- whether the script of fields is likely for their language, both alone and with a region
abbrev pub is_likely_with : Fields → List ℕ → Bool
is_likely_with f region =
    are_alike (likely_script f) (likely_script (other_region f region)) && are_alike (likely_script f) (likely_script (language_alone f))

-- the script of a record that gets a region: it is written if it is not likely. `ZZ` and an extended language that is not
-- registered have no likely script
abbrev pub script_with : Record → List ℕ → List ℕ
script_with r region =
    if (length region == 0 || not (is_read r.primary r.extended)) || is_likely_with (fields_of r) region then unwrap_or r.script []
    else likely_script (fields_of r)

-- ---- the keywords

-- whether `rg` and `sd` of the tag are removed: the range has a region, or `rg`
abbrev pub removes_subdivisions : Wish → Bool
removes_subdivisions w = not (length w.region == 0) || list_any (are_alike (codes "rg")) w.unicode

-- whether the keywords of a key are removed
abbrev pub is_replaced : Wish → List ℕ → Bool
is_replaced w key = list_any (are_alike key) w.unicode || (removes_subdivisions w && has_subdivision key)

-- whether a subtag belongs to a keyword that is removed; `inside` says whether the subtag before it does
abbrev pub belongs_to_removed : Wish → Bool → List ℕ → Bool
belongs_to_removed w inside subtag = if is_key subtag then is_replaced w subtag else inside

-- the subtags of `u` without the keywords that are removed
abbrev pub remaining_subtags : Wish → Bool → List (List ℕ) → List (List ℕ)
remaining_subtags w inside [] = []
remaining_subtags w inside (subtag ∷ subtags) =
    if belongs_to_removed w inside subtag then remaining_subtags w true subtags else subtag ∷ remaining_subtags w false subtags

-- whether a subtag is a key that is greater than a key
abbrev pub is_greater_key : List ℕ → List ℕ → Bool
is_greater_key key subtag = is_key subtag && is_before (fold_text key) (fold_text subtag)

-- the subtags from the first greater key on
abbrev pub from_greater : List ℕ → List (List ℕ) → List (List ℕ)
from_greater key [] = []
from_greater key (subtag ∷ subtags) = if is_greater_key key subtag then subtag ∷ subtags else from_greater key subtags

-- other subtags with the keywords of some keys, each before the first greater key
abbrev pub with_keywords : (List ℕ → List (List ℕ)) → List (List ℕ) → List (List ℕ) → List (List ℕ)
with_keywords keyword [] others = others
with_keywords keyword (key ∷ keys) others = before_key (is_greater_key key) others ++ (keyword key ++ with_keywords keyword keys (from_greater key others))

-- the subtags of `u` that stay, with the keywords of the range in canonical form
abbrev pub resolved_subtags : Wish → List (List ℕ) → List (List ℕ)
resolved_subtags w subtags = with_keywords (keyword_form is_key unicode_value w.unicode) (keys_in_order is_key w.unicode) (remaining_subtags w false subtags)

-- ---- the tag

-- the record with what is asked of it; a new region is in uppercase
unfoldable pub resolved_record : Wish → Record → Record
resolved_record w r =
    let region : List ℕ = new_region r w.region in
    record r {
      script = subtag_of (script_with r region);
      region = or_else (subtag_of (capital_text region)) r.region;
      extensions = with_changed_u (resolved_subtags w) r.extensions;
    }

-- nothing is asked of a tag: it is not a normal tag, or it is grandfathered, or the range has no Unicode locale identifier
abbrev pub IsKept : List ℕ → List ℕ → Type 0
IsKept range tag = (IsNormal tag → ⊥) ⊎ (IsGrandfathered tag ⊎ ((locale : List ℕ) → IsLocaleOf range locale → ⊥))

-- the tag with what the Unicode locale identifier of the range asks of it
pub record IsAsked (range tag resolved : List ℕ) : Type 0 where
  pub normal : IsNormal tag
  pub other : IsGrandfathered tag → ⊥
  pub locale : List ℕ
  pub is_locale : IsLocaleOf range locale
  pub parts : EachRecord locale (λ l. EachRecord tag (λ r. resolved ≡ spell (resolved_record (wish_for r (wish_of l)) r)))

-- the locale to format with, for a tag that was chosen for a range
abbrev pub IsResolved : List ℕ → List ℕ → List ℕ → Type 0
IsResolved range tag resolved = (IsKept range tag × (resolved ≡ tag)) ⊎ IsAsked range tag resolved
