-- The scripts of Unicode's CLDR 48.2 that are written from right to left (the notice: LICENSE-UNICODE). Written by data/likely/generate.py. Do not edit.
use Rattle.std.specs.Prelude.{ℕ, List, codes}
use Rattle.langtag_text.specs.Words.{words}

-- the scripts whose field 'RTL?' in scriptMetadata is YES, and the variants of Arab (Aran) and Syrc (Syre, Syrj and Syrn), which have codes of their own in ISO 15924
unfoldable pub right_to_left_scripts : List (List ℕ)
right_to_left_scripts = words (codes "Adlm Arab Aran Armi Avst Chrs Cprt Elym Gara Hatr Hebr Hung Khar Lydi Mand Mani Mend Merc Mero Narb Nbat Nkoo Orkh Ougr Palm Phli Phlp Phnx Prti Rohg Samr Sarb Sidt Sogd Sogo Syrc Syre Syrj Syrn Thaa Yezi")
