use Rattle.std.proofs.Common.{◌≡◌, map, subst, sym, true}
use Rattle.langtag_text.specs.Numbers.{climbs_from}
use Rattle.langtag_choice.proofs.RegionWidths.{regions_climb, regions_listed}
use Rattle.langtag_choice.proofs.region_group.regions_of.Goals as goal

pub returns-clause-numbers : goal.returns-clause-numbers
returns-clause-numbers c =
    regions_listed c.regions_at.result.now (map (λ regions. regions.now) c.group_regions.result.now) c.args.index c.requires c.group_regions.ensures.numbers c.regions_at.ensures

pub returns-clause-climbs : goal.returns-clause-climbs
returns-clause-climbs c = subst (λ numbers. climbs_from 0 numbers ≡ true) (sym (returns-clause-numbers c)) (regions_climb c.args.index c.requires)
