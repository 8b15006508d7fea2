-- The aliases of Unicode's CLDR 48.2 (the notice: LICENSE-UNICODE). Written by data/unicode/generate.py. Do not edit.
use Rattle.std.specs.Prelude.{[], ◌∷◌, List, codes}
use Rattle.std.specs.List.{flat_map}
use Rattle.langtag_text.specs.Words.{words}
use Rattle.langtag_text.specs.Alias.{Alias, TypeAlias, aliases_of, type_aliases_of}

-- the types of the extension u that are replaced: a key, the old type and the new type
unfoldable pub unicode_type_aliases : List TypeAlias
unicode_type_aliases =
    flat_map (λ text. type_aliases_of (words text))
    (codes "ca ethiopic-amete-alem ethioaa ca islamicc islamic-civil kb yes true kc yes true kh yes true kk yes true kn yes true ks primary level1 ks tertiary level3 ms imperial uksystem tz aqams aqmcm tz aukns auhba tz caffs cawnp tz camtr cator tz canpg cator tz capnt caiql"
    ∷ codes "tz cathu cator tz cayzf caedm tz cet bebru tz cnckg cnsha tz cnhrb cnsha tz cnkhg cnurc tz cst6cdt uschi tz cuba cuhav tz eet grath tz egypt egcai tz eire iedub tz est papty tz est5edt usnyc tz factory unk tz gaza gazastrp tz gmt0 gmt"
    ∷ codes "tz hongkong hkhkg tz hst ushnl tz iceland isrey tz iran irthr tz israel jeruslm tz jamaica jmkin tz japan jptyo tz libya lytip tz met bebru tz mncoq mnuln tz mst usphx tz mst7mdt usden tz mxstis mxtij tz navajo usden tz poland plwaw tz portugal ptlis"
    ∷ codes "tz prc cnsha tz pst8pdt uslax tz roc twtpe tz rok krsel tz turkey trist tz uaozh uaiev tz uauzh uaiev tz uct utc tz umjon ushnl tz usnavajo usden tz wet ptlis tz zulu utc"
    ∷ [])

-- the types of the extension t that are replaced: a key, the old type and the new type
unfoldable pub transform_type_aliases : List TypeAlias
transform_type_aliases =
    flat_map (λ text. type_aliases_of (words text))
    (codes "d0 name charname m0 beta-metsehaf betamets m0 ies-jes iesjes m0 names prprname m0 tekie-alibekit tekieali"
    ∷ [])

-- the subdivisions that are replaced: the old code, and the first code that replaces it, with `zzzz` after a code that is a region
unfoldable pub subdivision_aliases : List Alias
subdivision_aliases =
    flat_map (λ text. aliases_of (words text))
    (codes "cn11 cnbj cn12 cntj cn13 cnhe cn14 cnsx cn15 cnmn cn21 cnln cn22 cnjl cn23 cnhl cn31 cnsh cn32 cnjs cn33 cnzj cn34 cnah cn35 cnfj cn36 cnjx cn37 cnsd cn41 cnha"
    ∷ codes "cn42 cnhb cn43 cnhn cn44 cngd cn45 cngx cn46 cnhi cn50 cncq cn51 cnsc cn52 cngz cn53 cnyn cn54 cnxz cn61 cnsn cn62 cngs cn63 cnqh cn64 cnnx cn65 cnxj cn71 twzzzz"
    ∷ codes "cn91 hkzzzz cn92 mozzzz cz10a cz110 cz10b cz111 cz10c cz112 cz10d cz113 cz10e cz114 cz10f cz115 cz611 cz663 cz612 cz632 cz613 cz633 cz614 cz634 cz615 cz635 cz621 cz641 cz622 cz642 cz623 cz643"
    ∷ codes "cz624 cz644 cz626 cz646 cz627 cz647 czjc cz31 czjm cz64 czka cz41 czkr cz52 czli cz51 czmo cz80 czol cz71 czpa cz53 czpl cz32 czpr cz10 czst cz20 czus cz42 czvy cz63"
    ∷ codes "czzl cz72 fi01 axzzzz fra frges frb frnaq frbl blzzzz frc frara frcp cpzzzz frd frbfc fre frbre frf frcvl frg frges frgf gfzzzz frgp gpzzzz frgua gpzzzz frh frcor fri frbfc"
    ∷ codes "frj fridf frk frocc frl frnaq frlre rezzzz frm frges frmay ytzzzz frmf mfzzzz frmq mqzzzz frn frocc frnc nczzzz fro frhdf frp frnor frpf pfzzzz frpm pmzzzz frq frnor frr frpdl"
    ∷ codes "frre rezzzz frs frhdf frt frnaq frtf tfzzzz fru frpac frv frara frwf wfzzzz fryt ytzzzz laxn laxs lud lucl lug luec lul luca mrnkc mr13 nlaw awzzzz nlcw cwzzzz nlsx sxzzzz"
    ∷ codes "no23 no50 nzn nzauk nzs nzcan omba ombj omsh omsj plds pl02 plkp pl04 pllb pl08 plld pl10 pllu pl06 plma pl12 plmz pl14 plop pl16 plpd pl20 plpk pl18 plpm pl22"
    ∷ codes "plsk pl26 plsl pl24 plwn pl28 plwp pl30 plzp pl32 shta tazzzz tteto tttob ttrcm ttmrc ttwto tttob twkhq twkhh twtnq twtnn twtpq twnwt twtxq twtxg usas aszzzz usgu guzzzz usmp mpzzzz"
    ∷ codes "uspr przzzz usum umzzzz usvi vizzzz"
    ∷ [])
