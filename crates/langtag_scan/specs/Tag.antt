-- The texts that are language tags (RFC 5646 section 2.1): Language-Tag = langtag / privateuse / grandfathered.
use Rattle.std.specs.Prelude.{◌≡◌, ℕ, ◌⊎◌, List, slice_get, Some}
use Rattle.langtag_scan.specs.Case.{Alike}
use Rattle.langtag_scan.specs.Subtags.{join}
use Rattle.langtag_scan.specs.Record.{PrivateUse, Record, IsWellFormedPrivateUse, Spells, private_use_flat}
use Rattle.langtag_scan.specs.Grandfathered.{irregular_texts}

-- a well-formed record spells the text
unfoldable pub IsNormal : List ℕ → Type 0
IsNormal t = (r : Record) × Spells r t

-- a well-formed private use part, which is a mark and the subtags after it, spells the text (section 2.2.7)
unfoldable pub IsPrivate : List ℕ → Type 0
IsPrivate t = (p : PrivateUse) × IsWellFormedPrivateUse p × (join (private_use_flat p) ≡ t)

-- the text equals the irregular tag at an index of the table, ignoring case (section 2.2.8)
unfoldable pub IsIrregularAt : ℕ → List ℕ → Type 0
IsIrregularAt k t = (name : List ℕ) × (slice_get irregular_texts k ≡ Some name) × Alike name t

-- the text equals some irregular tag, ignoring case (section 2.2.8)
unfoldable pub IsIrregular : List ℕ → Type 0
IsIrregular t = (k : ℕ) × IsIrregularAt k t

-- the text is a normal tag, a private use tag or an irregular tag. The regular grandfathered tags need no rule, since
-- they have the form of normal tags
unfoldable pub IsTag : List ℕ → Type 0
IsTag t = IsNormal t ⊎ IsPrivate t ⊎ IsIrregular t
