-- The rules of language matching of Unicode's CLDR 48.2 (the notice: LICENSE-UNICODE). Written by data/likely/generate.py. Do not edit.
use Rattle.std.specs.Prelude.{ℕ, [], ◌∷◌, List, codes}
use Rattle.std.specs.List.{flat_map}
use Rattle.langtag_text.specs.Words.{words}
use Rattle.langtag_choice.specs.Rules.{Rule, rules_of_languages, rules_of_scripts}
use Rattle.langtag_choice.specs.RegionGroup.{RegionGroup, groups_of_words}

-- the rules for languages: a desired language, a supported language, and their distance. A rule that holds in both directions is listed twice
unfoldable pub language_rules : List Rule
language_rules =
    flat_map (λ text. rules_of_languages (words text))
    (codes "aa ssy 4 ab ru 30 af en 20 ak en 30 am en 30 ay es 20 az ru 30 be ru 20 bh hi 30 bn en 30 bo zh 20 br fr 20 bs hr 4 bs sh 4 ca es 20 co fr 20 cs sk 20 cy en 20 da nb 8 da no 8 ee en 30 eo en 30 eu es 20 fo da 20"
    ∷ codes "fy nl 20 ga en 20 gd en 20 gl es 20 gn es 20 gu hi 30 ha en 30 hr bs 4 hr sh 4 ht fr 20 hy ru 30 ia en 30 id ms 10 ig en 30 is en 20 jv id 20 ka en 30 kg fr 30 kk ru 30 km en 30 kn en 30 ku tr 30 ky ru 30 la it 20"
    ∷ codes "lb de 4 lg en 30 ln fr 30 lo en 30 mg fr 30 mi en 20 ml en 30 mn ru 30 mr hi 30 ms id 30 mt en 30 my en 30 nb da 8 nb nn 20 nb no 1 ne en 30 nn nb 20 nn no 20 no da 8 no nb 1 no nn 20 ny en 30 oc fr 20 om en 30"
    ∷ codes "or en 30 pa en 30 ps en 30 qu es 30 rm de 20 rn en 30 rw fr 30 sa hi 30 sd en 30 sh bs 4 sh hr 4 sh sr 4 si en 30 sk cs 20 sn en 30 so en 30 sq en 30 sr sh 4 st en 30 su id 20 sw en 30 ta en 30 te en 30 tg ru 30"
    ∷ codes "ti en 30 tk ru 30 tn en 30 to en 30 tt ru 30 ug zh 20 ur en 30 uz ru 30 wo fr 30 xh en 30 yi en 30 yo en 30 za zh 20 zu en 30 aae sq 10 aao ar 10 aat sq 10 abh ar 10 abv ar 10 ach en 30 acm ar 10 acq ar 10 acw ar 10 acx ar 10"
    ∷ codes "acy ar 10 adf ar 10 aeb ar 10 aec ar 10 afb ar 10 aii syr 10 aln sq 10 apc ar 10 apd ar 10 arq ar 10 ars ar 10 ary ar 10 arz ar 10 auz ar 10 avl ar 10 ayh ar 10 ayl ar 10 ayn ar 10 ayp ar 10 azb az 10 bal ur 20 bbz ar 10 bem en 30 bhr mg 10"
    ∷ codes "bjn ms 10 bjq mg 10 bmm mg 10 btj ms 10 bve ms 10 bvu ms 10 bzc mg 10 cdo zh 10 ceb fil 30 chr en 20 cjy zh 10 ckb ar 30 cnp zh 10 coa ms 10 cpx zh 10 crs fr 20 csp zh 10 czh zh 10 czo zh 10 dty ne 10 dup ms 10 enb kln 10 eyo kln 10 ffm ff 10"
    ∷ codes "fub ff 10 fue ff 10 fuf ff 10 fuh ff 10 fui ff 10 fuq ff 10 fuv ff 10 gaa en 30 gan zh 10 gax om 10 gkp kpe 10 gnw gn 10 gsw de 4 gui gn 10 gun gn 10 hae om 10 hak zh 10 haw en 20 hji ms 10 hnm zh 10 hsn zh 10 ida luy 10 ikt iu 10 jak ms 10"
    ∷ codes "jax ms 10 knn kok 10 kri en 30 kvb ms 10 kvr ms 10 kxd ms 10 lce ms 10 lcf ms 10 liw ms 10 lkb luy 10 lko luy 10 lks luy 10 loz en 30 lri luy 10 lrm luy 10 lsm luy 10 ltg lv 10 lto luy 10 lts luy 10 lua fr 30 luh zh 10 lwg luy 10 lzh zh 10 mai hi 20"
    ∷ codes "max ms 10 meo ms 10 mfa ms 10 mfb ms 10 mfe en 30 min ms 10 mnp zh 10 mqg ms 10 msh mg 10 msi ms 10 mui ms 10 mvf mn 10 nan zh 10 nhd gn 10 niq kln 10 nle luy 10 nso en 30 nyd luy 10 nyn en 30 oki kln 10 orc om 10 orn ms 10 ors ms 10 pbt ps 10"
    ∷ codes "pcm en 20 pel ms 10 pga ar 10 pko kln 10 pse ms 10 pst ps 10 qub qu 10 qud qu 10 quf qu 10 qug qu 10 quh qu 10 quk qu 10 qul qu 10 qup qu 10 qur qu 10 qus qu 10 quw qu 10 qux qu 10 quy qu 10 qva qu 10 qvc qu 10 qve qu 10 qvh qu 10 qvi qu 10"
    ∷ codes "qvj qu 10 qvl qu 10 qvm qu 10 qvn qu 10 qvo qu 10 qvp qu 10 qvs qu 10 qvw qu 10 qvz qu 10 qwa qu 10 qwc qu 10 qwh qu 10 qws qu 10 qxa qu 10 qxc qu 10 qxh qu 10 qxl qu 10 qxn qu 10 qxo qu 10 qxp qu 10 qxr qu 10 qxt qu 10 qxu qu 10 qxw qu 10"
    ∷ codes "rag luy 10 scn it 20 sdc sc 10 sdn sc 10 sgc kln 10 shu ar 10 sjc zh 10 skg mg 10 spv or 10 sro sc 10 ssh ar 10 ssy aa 4 tdx mg 10 tec kln 10 tkg mg 10 tlh en 30 tmw ms 10 tum en 30 tuy kln 10 txy mg 10 urk ms 10 uzs uz 10 vkk ms 10 vkt ms 10"
    ∷ codes "vro et 10 wuu zh 10 xmm ms 10 xmv mg 10 xmw mg 10 yih yi 10 yue zh 10 zlm ms 10 zmi ms 10"
    ∷ [])

-- the rules for scripts: a desired language with its script, a supported language with its script, and the distance of the scripts. A rule that holds in both directions is listed twice
unfoldable pub script_rules : List Rule
script_rules =
    flat_map (λ text. rules_of_scripts (words text))
    (codes "am Ethi en Latn 10 ar Latn ar Arab 20 az Latn ru Cyrl 10 bn Beng en Latn 10 bn Latn bn Beng 20 bo Tibt zh Hans 10 gu Latn gu Gujr 20 hi Latn hi Deva 20 hy Armn ru Cyrl 10 ja Hani ja Jpan 5 ja Hira ja Hrkt 5 ja Hira ja Jpan 5 ja Hrkt ja Jpan 5 ja Kana ja Hrkt 5 ja Kana ja Jpan 5 ja Latn ja Jpan 5 ka Geor en Latn 10 km Khmr en Latn 10 kn Knda en Latn 10 kn Latn kn Knda 20 ko Hang ko Kore 5 ko Hani ko Kore 5 ko Jamo ko Hang 5 ko Jamo ko Kore 5"
    ∷ codes "lo Laoo en Latn 10 ml Latn ml Mlym 20 ml Mlym en Latn 10 mr Latn mr Deva 20 my Mymr en Latn 10 ne Deva en Latn 10 or Orya en Latn 10 pa Guru en Latn 10 ps Arab en Latn 10 sd Arab en Latn 10 si Sinh en Latn 10 sr Cyrl sr Latn 5 sr Latn sr Cyrl 5 ta Latn ta Taml 20 ta Taml en Latn 10 te Latn te Telu 20 te Telu en Latn 10 ti Ethi en Latn 10 tk Latn ru Cyrl 10 ur Arab en Latn 10 uz Latn ru Cyrl 10 yi Hebr en Latn 10 za Latn zh Hans 10 zh Hani zh Hans 20"
    ∷ codes "zh Hani zh Hant 20 zh Latn zh Hans 20"
    ∷ [])

-- the groups of regions other than the world, each before its regions: countries, and smaller groups
unfoldable pub region_groups : List RegionGroup
region_groups =
    flat_map (λ text. groups_of_words (words text))
    (codes "EU AT BE BG CY CZ DE DK EE ES EZ FI FR GR HR HU IE IT LT LU LV MT NL PL PT RO SE SI SK"
    ∷ codes "EZ AT BE CY DE EE ES FI FR GR IE IT LT LU LV MT NL PT SI SK"
    ∷ codes "QO AC AQ CP DG TA"
    ∷ codes "UN AD AE AF AG AL AM AO AR AT AU AZ BA BB BD BE BF BG BH BI BJ BN BO BR BS BT BW BY BZ CA CD CF CG CH CI CL CM CN CO CR CU CV CY CZ DE DJ DK DM DO DZ EC EE EG ER ES ET EU EZ FI FJ FM FR GA GB GD GE GH GM GN GQ GR GT GW GY HN HR HT HU ID IE IL IN IQ IR IS IT JM JO JP KE KG KH KI KM KN KP KR KW KZ LA LB LC LI LK LR LS LT LU LV LY MA MC MD ME MG MH MK ML MM MN MR MT MU MV MW MX MY MZ NA NE NG NI NL NO NP NR NZ OM PA PE PG PH PK PL PT PW PY QA RO RS RU RW SA SB SC SD SE SG SI SK SL SM SN SO SR SS ST SV SY SZ TD TG TH TJ TL TM TN TO TR TT TV TZ UA UG US UY UZ VC VE VN VU WS YE ZA ZM ZW 013 017 018 034 035 143 151 155"
    ∷ codes "002 AO BF BI BJ BW CD CF CG CI CM CV DJ DZ EA EG EH ER ET GA GH GM GN GQ GW IC IO KE KM LR LS LY MA MG ML MR MU MW MZ NA NE NG RE RW SC SD SH SL SN SO SS ST SZ TD TF TG TN TZ UG YT ZA ZM ZW 011 014 015 017 018 202"
    ∷ codes "003 AG AI AW BB BL BM BQ BS BZ CA CR CU CW DM DO GD GL GP GT HN HT JM KN KY LC MF MQ MS MX NI PA PM PR SV SX TC TT US VC VG VI 013 021 029"
    ∷ codes "005 AR BO BR BV CL CO EC FK GF GS GY PE PY SR UY VE"
    ∷ codes "009 AC AQ AS AU CC CK CP CX DG FJ FM GU HM KI MH MP NC NF NR NU NZ PF PG PN PW QO SB TA TK TO TV UM VU WF WS 053 054 057 061"
    ∷ codes "011 BF BJ CI CV GH GM GN GW LR ML MR NE NG SH SL SN TG"
    ∷ codes "013 BZ CR GT HN MX NI PA SV"
    ∷ codes "014 BI DJ ER ET IO KE KM MG MU MW MZ RE RW SC SO SS TF TZ UG YT ZM ZW"
    ∷ codes "015 DZ EA EG EH IC LY MA SD TN"
    ∷ codes "017 AO CD CF CG CM GA GQ ST TD"
    ∷ codes "018 BW LS NA SZ ZA"
    ∷ codes "019 AG AI AR AW BB BL BM BO BQ BR BS BV BZ CA CL CO CR CU CW DM DO EC FK GD GF GL GP GS GT GY HN HT JM KN KY LC MF MQ MS MX NI PA PE PM PR PY SR SV SX TC TT US UY VC VE VG VI 003 005 013 021 029 419"
    ∷ codes "021 BM CA GL PM US"
    ∷ codes "029 AG AI AW BB BL BQ BS CU CW DM DO GD GP HT JM KN KY LC MF MQ MS PR SX TC TT VC VG VI"
    ∷ codes "030 CN HK JP KP KR MN MO TW"
    ∷ codes "034 AF BD BT IN IR LK MV NP PK"
    ∷ codes "035 BN ID KH LA MM MY PH SG TH TL VN"
    ∷ codes "039 AD AL BA ES GI GR HR IT ME MK MT PT RS SI SM VA XK"
    ∷ codes "053 AU CC CX HM NF NZ"
    ∷ codes "054 FJ NC PG SB VU"
    ∷ codes "057 FM GU KI MH MP NR PW UM"
    ∷ codes "061 AS CK NU PF PN TK TO TV WF WS"
    ∷ codes "142 AE AF AM AZ BD BH BN BT CN CY GE HK ID IL IN IQ IR JO JP KG KH KP KR KW KZ LA LB LK MM MN MO MV MY NP OM PH PK PS QA SA SG SY TH TJ TL TM TR TW UZ VN YE 030 034 035 143 145"
    ∷ codes "143 KG KZ TJ TM UZ"
    ∷ codes "145 AE AM AZ BH CY GE IL IQ JO KW LB OM PS QA SA SY TR YE"
    ∷ codes "150 AD AL AT AX BA BE BG BY CH CQ CZ DE DK EE ES FI FO FR GB GG GI GR HR HU IE IM IS IT JE LI LT LU LV MC MD ME MK MT NL NO PL PT RO RS RU SE SI SJ SK SM UA VA XK 039 151 154 155"
    ∷ codes "151 BG BY CZ HU MD PL RO RU SK UA"
    ∷ codes "154 AX CQ DK EE FI FO GB GG IE IM IS JE LT LV NO SE SJ"
    ∷ codes "155 AT BE CH DE FR LI LU MC NL"
    ∷ codes "202 AO BF BI BJ BW CD CF CG CI CM CV DJ ER ET GA GH GM GN GQ GW IO KE KM LR LS MG ML MR MU MW MZ NA NE NG RE RW SC SH SL SN SO SS ST SZ TD TF TG TZ UG YT ZA ZM ZW 011 014 017 018"
    ∷ codes "419 AG AI AR AW BB BL BO BQ BR BS BV BZ CL CO CR CU CW DM DO EC FK GD GF GP GS GT GY HN HT JM KN KY LC MF MQ MS MX NI PA PE PR PY SR SV SX TC TT UY VC VE VG VI 005 013 029"
    ∷ [])

-- the regions of $maghreb: countries, and groups of countries that are all in it
unfoldable pub maghreb_inside : List (List ℕ)
maghreb_inside =
    flat_map words
    (codes "DZ EH LY MA MR TN"
    ∷ [])

-- groups of countries of which some are in $maghreb, but not all
unfoldable pub maghreb_partly : List (List ℕ)
maghreb_partly =
    flat_map words
    (codes "UN 002 011 015 202"
    ∷ [])

-- the regions of $enUS: countries, and groups of countries that are all in it
unfoldable pub en_us_inside : List (List ℕ)
en_us_inside =
    flat_map words
    (codes "AS CA GU MH MP PH PR UM US VI"
    ∷ [])

-- groups of countries of which some are in $enUS, but not all
unfoldable pub en_us_partly : List (List ℕ)
en_us_partly =
    flat_map words
    (codes "UN 003 009 019 021 029 035 057 061 142 419"
    ∷ [])

-- the regions of $americas: countries, and groups of countries that are all in it
unfoldable pub americas_inside : List (List ℕ)
americas_inside =
    flat_map words
    (codes "AG AI AR AW BB BL BM BO BQ BR BS BV BZ CA CL CO CR CU CW DM DO EC FK GD"
    ∷ codes "GF GL GP GS GT GY HN HT JM KN KY LC MF MQ MS MX NI PA PE PM PR PY SR SV"
    ∷ codes "SX TC TT US UY VC VE VG VI 003 005 013 019 021 029 419"
    ∷ [])

-- groups of countries of which some are in $americas, but not all
unfoldable pub americas_partly : List (List ℕ)
americas_partly =
    flat_map words
    (codes "UN"
    ∷ [])

-- the regions of $cnsar: countries, and groups of countries that are all in it
unfoldable pub cnsar_inside : List (List ℕ)
cnsar_inside =
    flat_map words
    (codes "HK MO"
    ∷ [])

-- groups of countries of which some are in $cnsar, but not all
unfoldable pub cnsar_partly : List (List ℕ)
cnsar_partly =
    flat_map words
    (codes "030 142"
    ∷ [])
