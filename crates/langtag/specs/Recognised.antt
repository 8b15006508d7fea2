-- What a tag stores about its text, as a `Finding` of langtag_scan. Only invariants and contracts of private functions
-- cite this page.
use Rattle.langtag_scan.specs.declared.finding.Finding.{Finding}
use Rattle.langtag_scan.specs.declared.finding.Finding.TheVariants as found
use Rattle.langtag.specs.Registered.{index_of}
use Rattle.langtag.specs.declared.recognised.Recognised.{Recognised}
use Rattle.langtag.specs.declared.recognised.Recognised.TheVariants.{Normal, PrivateUse, Irregular}

-- the kind of the tag, with the ends of the parts of a normal tag or the index of an irregular tag
abbrev pub finding_of : Recognised → Finding
finding_of (Normal ends) = found.Normal ends
finding_of PrivateUse = found.PrivateUse
finding_of (Irregular tag) = found.Irregular (index_of tag)
