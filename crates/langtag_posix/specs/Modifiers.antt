-- What the modifiers of locale names mean, as glibc, KDE and GNOME use them.
use Rattle.std.specs.Prelude.{ℕ, Bool, true, false, ◌&&◌, ◌||◌, List, [], ◌∷◌, Option, None, Some, codes, find, is_some, unwrap_or, if◌then◌else◌}
use Rattle.langtag_scan.specs.Grammar.{list_any, are_alike, is_script}
use Rattle.langtag_cldr.specs.Definitions.{script_codes}
use Rattle.langtag_posix.specs.KeywordNames.{are_keywords}

-- whether a text is the code of a script (ISO 15924)
abbrev pub is_script_code : List ℕ → Bool
is_script_code text = is_script text && list_any (λ code. are_alike code text) script_codes

-- the script that a modifier names; it may be a code such as `Cyrl` or `shaw`
abbrev pub modifier_script : List ℕ → Option (List ℕ)
modifier_script modifier =
    if are_alike (codes "latin") modifier || (are_alike (codes "iqtelif") modifier || are_alike (codes "ijekavianlatin") modifier) then Some (codes "Latn")
    else if are_alike (codes "cyrillic") modifier then Some (codes "Cyrl")
    else if are_alike (codes "devanagari") modifier then Some (codes "Deva")
    else if is_script_code modifier then Some modifier
    else None

-- the variant that a modifier names
abbrev pub modifier_variant : List ℕ → Option (List ℕ)
modifier_variant modifier =
    if are_alike (codes "ijekavian") modifier || are_alike (codes "ijekavianlatin") modifier then Some (codes "ijekavsk")
    else if are_alike (codes "polyton") modifier then Some (codes "polyton")
    else if are_alike (codes "tarask") modifier then Some (codes "tarask")
    else if are_alike (codes "valencia") modifier then Some (codes "valencia")
    else None

-- whether a modifier is about sorting, quotation marks or currency, and not about the language
abbrev pub says_nothing : List ℕ → Bool
says_nothing modifier =
    are_alike (codes "euro") modifier || (are_alike (codes "preeuro") modifier || (are_alike (codes "abegede") modifier || (are_alike (codes "phonebook") modifier
    || (are_alike (codes "pinyin") modifier || (are_alike (codes "radical") modifier || (are_alike (codes "stroke") modifier || (are_alike (codes "cjknarrow") modifier
    || (are_alike (codes "quot") modifier || are_alike (codes "boldquot") modifier))))))))

abbrev pub is_empty : List ℕ → Bool
is_empty [] = true
is_empty (b ∷ text) = false

-- whether the modifier is empty, names a script or a variant, is not about the language, or consists of keywords that can be
-- read
unfoldable pub is_known : List ℕ → Bool
is_known modifier = is_empty modifier || (is_some (modifier_script modifier) || (is_some (modifier_variant modifier) || (says_nothing modifier || are_keywords modifier)))

-- ---- the modifier for a script and variants

-- the modifiers that are written, in the order in which they are tried; the empty text means that there is no modifier
abbrev pub modifiers : List (List ℕ)
modifiers =
    [] ∷ codes "latin" ∷ codes "cyrillic" ∷ codes "devanagari" ∷ codes "ijekavian" ∷ codes "ijekavianlatin" ∷ codes "polyton" ∷ codes "tarask" ∷ codes "valencia" ∷ []

-- whether a modifier names this script and these variants, ignoring case; the empty text means no script or no variants
abbrev pub names : List ℕ → List ℕ → List ℕ → Bool
names script variants modifier =
    are_alike (unwrap_or (modifier_script modifier) []) script && are_alike (unwrap_or (modifier_variant modifier) []) variants

-- the first modifier that names a script and variants
unfoldable pub modifier_for : List ℕ → List ℕ → Option (List ℕ)
modifier_for script variants = find (names script variants) modifiers
