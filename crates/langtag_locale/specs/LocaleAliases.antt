-- The aliases of language identifiers of Unicode's CLDR 48.2 (the notice: LICENSE-UNICODE). Written by data/unicode/generate.py. Do not edit.
use Rattle.std.specs.Prelude.{ℕ, [], ◌∷◌, List, codes}
use Rattle.std.specs.List.{flat_map}
use Rattle.langtag_text.specs.Words.{words}
use Rattle.langtag_text.specs.Alias.{Alias, TypeAlias, aliases_of, type_aliases_of}

-- the languages that change with a variant: the language, the variant and the new language
unfoldable pub variant_languages : List TypeAlias
variant_languages =
    flat_map (λ text. type_aliases_of (words text))
    (codes "aa saaho ssy art lojban jbo cel gaulish xtg hy arevmda hyw no bokmal nb no nynorsk nn zh guoyu zh zh hakka hak zh xiang hsn"
    ∷ [])

-- the regions after `sgn`, each with its sign language
unfoldable pub sign_languages : List Alias
sign_languages =
    flat_map (λ text. aliases_of (words text))
    (codes "br bzs co csn de gsg dk dsl es ssp fr fsl gb bfi gr gss ie isg it ise jp jsl mx mfs ni ncs nl dse no nsl pt psr"
    ∷ codes "se swl us ase za sfs"
    ∷ [])

-- the variants that are replaced together with a second variant: the variant, the second variant, and the new variant
unfoldable pub variant_pairs : List TypeAlias
variant_pairs =
    flat_map (λ text. type_aliases_of (words text))
    (codes "hepburn heploc alalc97"
    ∷ [])

-- the variants that are replaced: the old variant and the new variant
unfoldable pub variant_aliases : List Alias
variant_aliases =
    flat_map (λ text. aliases_of (words text))
    (codes "heploc alalc97 polytoni polyton"
    ∷ [])

-- the variants that are left out
unfoldable pub dropped_variants : List (List ℕ)
dropped_variants =
    flat_map (λ text. words text)
    (codes "aaland arevela arevmda bokmal hakka lojban nynorsk saaho xiang"
    ∷ [])

-- the variants that stand for a region, each with its region
unfoldable pub variant_regions : List Alias
variant_regions =
    flat_map (λ text. aliases_of (words text))
    (codes "aaland ax"
    ∷ [])

-- the scripts that are replaced: the old script and the new script
unfoldable pub script_aliases : List Alias
script_aliases =
    flat_map (λ text. aliases_of (words text))
    (codes "qaai zinh"
    ∷ [])

-- the regions that one of several regions replaces, each with those regions
unfoldable pub region_heirs : List Alias
region_heirs =
    flat_map (λ text. aliases_of (words text))
    (codes "062 034-143 172 ru-am-az-by-ge-kg-kz-md-tj-tm-ua-uz 200 cz-sk 530 cw-sx-bq 532 cw-sx-bq 536 sa-iq 582 fm-mh-mp-pw 810 ru-am-az-by-ee-ge-kz-kg-lv-lt-md-tj-tm-ua-uz 830 je-gg 890 rs-me-si-hr-mk-ba 891 rs-me an cw-sx-bq cs rs-me fq aq-tf nt sa-iq pc fm-mh-mp-pw"
    ∷ codes "su ru-am-az-by-ee-ge-kz-kg-lv-lt-md-tj-tm-ua-uz yu rs-me"
    ∷ [])
