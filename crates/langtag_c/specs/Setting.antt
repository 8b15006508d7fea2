-- Whether a part of a normal tag, or a keyword of its extension `u`, can be set (RFC 5646 sections 2.2.1 to 2.2.7, RFC
-- 6067 section 2.1).
use Rattle.std.specs.Prelude.{◌≡◌, ℕ, ◌+◌, List, length, [], None}
use Rattle.langtag_scan.specs.Grammar.{subtags, IsNormal}
use Rattle.langtag_keyword.specs.Edit.{keyword_error}
use Rattle.langtag_c.specs.NumberedParts.{IsPartText}

-- the tag is a normal tag, and the text is a text of the part with the number
abbrev pub CanSet : ℕ → List ℕ → List ℕ → Type 0
CanSet number text tag = IsNormal tag × IsPartText number text

-- the tag is a normal tag, and the key and the value can be a keyword
abbrev pub CanSetKeyword : List ℕ → List ℕ → List ℕ → Type 0
CanSetKeyword key value tag = IsNormal tag × (keyword_error key (subtags value) ≡ None)

-- the tag is a normal tag, and the key can be in a keyword
abbrev pub CanRemoveKeyword : List ℕ → List ℕ → Type 0
CanRemoveKeyword key tag = CanSetKeyword key [] tag

-- a tag with a keyword set is no longer than this: the tag, the key, the value, and `-u--`
abbrev pub keyword_bound : List ℕ → List ℕ → List ℕ → ℕ
keyword_bound key value tag = length tag + length key + length value + 4
