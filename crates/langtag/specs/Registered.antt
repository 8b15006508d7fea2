-- Which registered tag a variant of `GrandfatheredLangTag` represents (RFC 5646 section 2.2.8): the tag at the
-- variant's index.
use Rattle.std.specs.Prelude.{◌≡◌, ℕ, List, [], map, slice_get, slice_index_or, Option, Some, None}
use Rattle.langtag_scan.specs.Grammar.{Alike, Grandfathered, grandfathered_tags}
use Rattle.langtag.specs.declared.grandfathered.GrandfatheredLangTag.{GrandfatheredLangTag}
use Rattle.langtag.specs.declared.grandfathered.GrandfatheredLangTag.TheVariants.{EnGbOed, IAmi, IBnn, IDefault, IEnochian, IHak, IKlingon, ILux, IMingo, INavajo, IPwn, ITao, ITay, ITsu, SgnBeFr, SgnBeNl, SgnChDe, ArtLojban, CelGaulish, NoBok, NoNyn, ZhGuoyu, ZhHakka, ZhMin, ZhMinNan, ZhXiang}

-- the index of a variant in the enum's declaration
abbrev pub index_of : GrandfatheredLangTag → ℕ
index_of EnGbOed = 0
index_of IAmi = 1
index_of IBnn = 2
index_of IDefault = 3
index_of IEnochian = 4
index_of IHak = 5
index_of IKlingon = 6
index_of ILux = 7
index_of IMingo = 8
index_of INavajo = 9
index_of IPwn = 10
index_of ITao = 11
index_of ITay = 12
index_of ITsu = 13
index_of SgnBeFr = 14
index_of SgnBeNl = 15
index_of SgnChDe = 16
index_of ArtLojban = 17
index_of CelGaulish = 18
index_of NoBok = 19
index_of NoNyn = 20
index_of ZhGuoyu = 21
index_of ZhHakka = 22
index_of ZhMin = 23
index_of ZhMinNan = 24
index_of ZhXiang = 25

-- the registered spelling of the tag at that index
abbrev pub text_of : GrandfatheredLangTag → List ℕ
text_of tag = slice_index_or (map (λ entry. entry.text) grandfathered_tags) (index_of tag) []

-- the primary language subtag of a regular tag, or none for an irregular tag
abbrev pub language_of : GrandfatheredLangTag → Option (List ℕ)
language_of tag = slice_index_or (map (λ entry. entry.language) grandfathered_tags) (index_of tag) None

-- the text equals the grandfathered tag at an index of the table, ignoring case (section 2.1.1)
unfoldable pub IsGrandfatheredAt : ℕ → List ℕ → Type 0
IsGrandfatheredAt k text = (entry : Grandfathered) × (slice_get grandfathered_tags k ≡ Some entry) × Alike entry.text text

-- the text equals one of the 26 grandfathered tags, ignoring case
unfoldable pub IsGrandfathered : List ℕ → Type 0
IsGrandfathered text = (k : ℕ) × IsGrandfatheredAt k text
