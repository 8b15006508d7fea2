-- The language and the territory of a locale name, as Android's resource folders, Windows and old versions of .NET write them,
-- or as Java and ICU do if a field is empty or is no subtag.
use Rattle.std.specs.Prelude.{ℕ, ◌==◌, ◌&&◌, ◌||◌, Bool, not, List, [], ◌∷◌, ◌++◌, Option, None, Some, codes, flat_map, is_some, length, map, nat_le, option_map, unwrap_or, if◌then◌else◌}
use Rattle.langtag_scan.specs.Prelude.{after_first, before_first}
use Rattle.langtag_scan.specs.Grammar.{are_alike, is_primary, is_region, is_script, is_variant, is_hyphen}
use Rattle.langtag_text.specs.Words.{words}
use Rattle.langtag_text.specs.Alias.{Alias, alias_for, aliases_of}
use Rattle.langtag_range.specs.Definitions.{hyphened}
use Rattle.langtag_cldr.specs.Definitions.{or_else}
use Rattle.langtag_posix.specs.Modifiers.{is_empty, is_script_code}

-- a part after its mark, or the empty text if the part is empty
abbrev pub marked : ℕ → List ℕ → List ℕ
marked mark [] = []
marked mark (b ∷ text) = mark ∷ (b ∷ text)

-- ---- Android: b+sr+Latn and zh-rTW

abbrev pub is_plus : ℕ → Bool
is_plus b = b == 43

-- whether a name begins with `b+`, in either case, and has no hyphen, before which the name of a folder would end; the
-- name `b` is not a tag either way
abbrev pub is_plus_name : List ℕ → Bool
is_plus_name place = are_alike (codes "b") (before_first is_plus place) && is_empty (after_first is_hyphen place)

-- the text with each byte `mark` read as a hyphen
abbrev pub hyphened_at : ℕ → List ℕ → List ℕ
hyphened_at mark text = map (λ b. if b == mark then 45 else b) text

-- the region after `r`, in either case: TW of rTW
abbrev pub region_after_mark : List ℕ → Option (List ℕ)
region_after_mark [] = None
region_after_mark (b ∷ region) = if (b == 114 || b == 82) && is_region region then Some region else None

-- the region after a language and `r`. After `sgn` there is none, since its extended languages are sign languages, and the
-- codes of some begin with `r`: sgn-rsl
abbrev pub android_region : List ℕ → List ℕ → Option (List ℕ)
android_region language behind = if are_alike (codes "sgn") language then None else region_after_mark behind

-- ---- .NET: zh-CHS, zh-CHT, az-AZ-Latn and sr-SP-Latn

-- the script that CHS or CHT means after `zh`
abbrev pub chinese_script : List ℕ → List ℕ → Option (List ℕ)
chinese_script language behind =
    if are_alike (codes "zh") language && are_alike (codes "CHS") behind then Some (codes "Hans")
    else if are_alike (codes "zh") language && are_alike (codes "CHT") behind then Some (codes "Hant")
    else None

-- the region of a name with a script: Serbia is SP in these names
abbrev pub region_now : List ℕ → List ℕ → List ℕ
region_now language region = if are_alike (codes "sr") language && are_alike (codes "SP") region then codes "RS" else region

-- a script and a region in the order of a tag, for a region and the code of a script
abbrev pub script_first : List ℕ → List ℕ → List ℕ → Option (List ℕ)
script_first language region script = if is_region region && is_script_code script then Some (script ++ 45 ∷ region_now language region) else None

-- ---- last fields of Java and Windows that are no subtags: no_NO_NY, ja_JP_JP and de-DE_phoneb

-- the names with such a field and their tags; `POSIX` is another such field
unfoldable pub last_fields : List Alias
last_fields =
    flat_map (λ text. aliases_of (words text))
    (codes "no-NO-NY nn-NO ja-JP-JP ja-JP-u-ca-japanese th-TH-TH th-TH-u-nu-thai"
    ∷ codes "de-DE-phoneb de-DE-u-co-phonebk es-ES-tradnl es-ES-u-co-trad ja-JP-radstr ja-JP-u-co-unihan"
    ∷ codes "zh-CN-stroke zh-CN-u-co-stroke zh-MO-stroke zh-MO-u-co-stroke zh-SG-stroke zh-SG-u-co-stroke"
    ∷ codes "zh-HK-radstr zh-HK-u-co-unihan zh-MO-radstr zh-MO-u-co-unihan zh-TW-radstr zh-TW-u-co-unihan zh-TW-pronun zh-TW-u-co-zhuyin"
    ∷ [])

-- ---- Java and ICU: _US, en__POSIX and zh_Hant__PINYIN, in which an empty field keeps its mark

-- the variants behind an empty field
abbrev pub behind_gap : List ℕ → Option (List ℕ)
behind_gap [] = None
behind_gap (b ∷ variants) = if is_hyphen b && is_variant (before_first is_hyphen variants) then Some variants else None

-- the text behind a language, without the mark of an empty region: POSIX of -POSIX, and Hant-PINYIN of Hant--PINYIN
abbrev pub without_gap : List ℕ → Option (List ℕ)
without_gap behind =
    or_else (behind_gap behind)
    (if is_script (before_first is_hyphen behind) then option_map (λ variants. before_first is_hyphen behind ++ 45 ∷ variants) (behind_gap (after_first is_hyphen behind)) else None)

-- the text behind an empty language, if there is some
abbrev pub behind_nothing : List ℕ → List ℕ → Option (List ℕ)
behind_nothing language behind = if is_empty language && not (is_empty behind) then Some behind else None

-- a language, `und` for an empty one
abbrev pub language_or_und : List ℕ → List ℕ
language_or_und language = if is_empty language then codes "und" else language

-- the text of a name with an empty field
abbrev pub filled : List ℕ → List ℕ → Option (List ℕ)
filled language behind = option_map (λ text. language_or_und language ++ 45 ∷ text) (or_else (without_gap behind) (behind_nothing language behind))

-- ---- what a name is read as

-- a language of two or three letters
abbrev pub is_short_language : List ℕ → Bool
is_short_language language = is_primary language && nat_le (length language) 3

-- what is read for the text after the language of a name, if that text has a form of Android or .NET
abbrev pub platform_behind : List ℕ → List ℕ → Option (List ℕ)
platform_behind language behind =
    or_else (chinese_script language behind)
    (or_else (android_region language behind) (script_first language (before_first is_hyphen behind) (after_first is_hyphen behind)))

abbrev pub platform_text : List ℕ → List ℕ → Option (List ℕ)
platform_text language behind = if is_short_language language then option_map (λ text. language ++ 45 ∷ text) (platform_behind language behind) else None

-- the tag for a text in a form of Java, Windows, Android or .NET or with an empty field, or else the text as it stands
abbrev pub platform_read : List ℕ → List ℕ
platform_read text =
    unwrap_or
    (or_else (alias_for last_fields text)
    (or_else (platform_text (before_first is_hyphen text) (after_first is_hyphen text)) (filled (before_first is_hyphen text) (after_first is_hyphen text))))
    text

-- the text that the language and the territory of a name are read as
unfoldable pub read_place : List ℕ → List ℕ
read_place place = if is_plus_name place then hyphened_at 43 (after_first is_plus place) else platform_read (hyphened place)

-- ---- what is no name of a language

-- whether a region keeps Android's mark, because other qualifiers of a folder come after it: en-rGB-ldrtl
abbrev pub has_marked_region : List ℕ → Bool
has_marked_region text =
    is_short_language (before_first is_hyphen text) && is_some (android_region (before_first is_hyphen text) (before_first is_hyphen (after_first is_hyphen text)))

-- whether a text has a language of at most three letters, or none, and no region with Android's mark. The registry has no
-- longer languages, but names such as `POSIX`, `english` and `night` have their form
abbrev pub is_of_language : List ℕ → Bool
is_of_language text = nat_le (length (before_first is_hyphen text)) 3 && not (has_marked_region text)
