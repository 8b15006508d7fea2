-- Unicode locale identifiers that are tags (UTS #35, part 1, section 'Unicode Locale Identifier').
use Rattle.std.specs.Prelude.{◌≡◌, ℕ, Bool, true, not, ◌&&◌, ◌||◌, ◌==◌, List, length, map, if◌then◌else◌, is_none}
use Rattle.langtag_scan.specs.Grammar.{list_all, are_alike, Extension, Record, Spells}
use Rattle.langtag.specs.Definitions.{are_alike_bytes, repeat}
use Rattle.langtag_likely.specs.Marked.{as_read}
use Rattle.langtag_keyword.specs.Edit.{is_unicode_key}
use Rattle.langtag_keyword.specs.Form.{is_of, is_transform, is_unicode_language}
use Rattle.langtag_keyword.specs.Keywords.{is_key}

-- whether a subtag may be in the extension `u`: if it is a key, it is a letter or a digit, and then a letter (ukey =
-- alphanum alpha)
abbrev pub is_unicode_subtag : List ℕ → Bool
is_unicode_subtag s = not (is_key s) || is_unicode_key s

-- whether an extension is allowed: `u` with such subtags, a well-formed `t`, or any other extension
abbrev pub is_locale_extension : Extension → Bool
is_locale_extension e = if is_of 117 e then list_all is_unicode_subtag e.subtags else if is_of 116 e then is_transform e.subtags else true

-- whether a record is a unicode_locale_id: it begins with a unicode_language_id, in which no variant is repeated; no
-- singleton is repeated, and each extension is allowed
abbrev pub is_locale_record : Record → Bool
is_locale_record r =
    is_unicode_language r.primary && length r.extended == 0 && is_none (repeat are_alike r.variants)
    && is_none (repeat are_alike_bytes (map (λ e. e.singleton) r.extensions)) && list_all is_locale_extension r.extensions

-- whether a text is a Unicode locale identifier
abbrev pub IsLocale : List ℕ → Type 0
IsLocale text = (r : Record) × Spells r text × (is_locale_record r ≡ true)

-- the same of the text as it is read, with Android's mark before a region, as in `es-rUS`
abbrev pub IsReadLocale : List ℕ → Type 0
IsReadLocale text = (r : Record) × Spells r text × (is_locale_record (as_read r) ≡ true)
