-- The language and the territory of a POSIX locale name, language[_territory][.codeset][@modifier] (IEEE Std 1003.1,
-- section 8.2), or of a name as Java and Android print it, with a script after `_#`.
use Rattle.std.specs.Prelude.{ℕ, ◌-◌, ◌==◌, ◌||◌, Bool, if◌then◌else◌, List, length, slice_index_or, take}
use Rattle.langtag_scan.specs.Prelude.{before_first, list_any}

-- whether a byte is "." or "@": it and what follows are dropped, as in zh_CN.UTF-8 and de@euro
abbrev pub ends_locale : ℕ → Bool
ends_locale b = (b == 46) || (b == 64)

abbrev pub is_hash : ℕ → Bool
is_hash b = b == 35

-- the text before the modifier and the codeset
abbrev pub front_of : List ℕ → List ℕ
front_of name = before_first ends_locale name

-- the text without the `_` at its end, if it has one
abbrev pub without_mark : List ℕ → List ℕ
without_mark text = if slice_index_or text (length text - 1) 0 == 95 then take (length text - 1) text else text

-- the language and the territory: the text before `_#` in `zh_TW_#Hant`, or before `__#` in `sr__#Latn`, which has no
-- territory
abbrev pub place_before : List ℕ → List ℕ
place_before front = if list_any is_hash front then without_mark (without_mark (before_first is_hash front)) else front

-- the language and the territory of a name
abbrev pub locale_place : List ℕ → List ℕ
locale_place name = place_before (front_of name)
