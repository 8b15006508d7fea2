use Rattle.langtag_cldr.proofs.FieldClasses.{region_alphanumeric}
use Rattle.langtag_choice.proofs.RegionWidths.{width_inside, width_outside}
use Rattle.langtag_choice.proofs.region_group.width_of.Goals as goal

pub returns-then-is_some : goal.returns-then-is_some
returns-then-is_some c =
    width_inside c.regions_of-regions.result.now c.args.index c.args.region.now c.requires.inside (region_alphanumeric c.args.region.now c.requires.class) c.regions_of-regions.ensures.numbers
    (cc (c.index_of.ensures.found, c.is_some.ensures, c.if-is_some.true))

pub returns-else-is_some : goal.returns-else-is_some
returns-else-is_some c =
    width_outside c.regions_of-regions.result.now c.args.index c.args.region.now c.requires.inside (region_alphanumeric c.args.region.now c.requires.class) c.regions_of-regions.ensures.numbers
    (cc (c.index_of.ensures.found, c.is_some.ensures, c.if-is_some.false))
