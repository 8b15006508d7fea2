use Rattle.std.proofs.Common.{sym}
use Rattle.langtag_scan.proofs.Prelude.{not-true}
use Rattle.langtag_cldr.proofs.FieldClasses.{region_alphanumeric}
use Rattle.langtag_choice.proofs.RegionWidths.{country_apart}
use Rattle.langtag_choice.proofs.region_group.is_country.Goals as goal

pub returns-in-len2 : goal.returns-in-len2
returns-in-len2 c = λ yes.
    country_apart c.args.code.now (region_alphanumeric c.args.code.now c.requires) c.in-len2.len_at_least c.in-len2.len_below
    (rw (sym c.into_smallcase.ensures, sym c.into_smallcase-in-len2.ensures, sym c.is_group_of_letters.ensures) (not-true _ yes))
