-- The sets of regions by their names in the code. Only contracts of private functions cite this page.
use Rattle.langtag_choice.specs.declared.region_distance.SetName.{SetName}
use Rattle.langtag_choice.specs.declared.region_distance.SetName.TheVariants.{Maghreb, UnitedStates, Americas, HongKongAndMacao}
use Rattle.langtag_choice.specs.Distance.{RegionSet, maghreb, en_us, americas, cnsar}

abbrev pub set_of : SetName → RegionSet
set_of Maghreb = maghreb
set_of UnitedStates = en_us
set_of Americas = americas
set_of HongKongAndMacao = cnsar
