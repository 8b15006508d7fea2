-- How near a tag is to a range. Only contracts of private functions cite this page.
use Rattle.std.specs.Prelude.{◌≡◌, ◌<◌, ℕ, true, List, Option, option_map}
use Rattle.langtag_range.specs.Definitions.{Element, basic_text}
use Rattle.langtag_text.specs.Fields.{Fields}
use Rattle.langtag_cldr.specs.Definitions.{matching_form, field_texts}
use Rattle.langtag_choice.specs.Serves.{may_serve, reach}
use Rattle.langtag_choice.specs.declared.nearness.Nearness.{Nearness}
use Rattle.langtag_choice.specs.declared.wish.Wish.{Wish}

-- the element from which a wish was read
abbrev pub wish_element : Wish → Element
wish_element wish = record { range = basic_text wish.range.now; weight = wish.weight }

-- the nearness of a tag to a range that the tag may serve
pub record IsNear (range tag : List ℕ) (near : Nearness) : Type 0 where
  pub distance : near.distance ≡ reach range tag
  pub form : option_map field_texts near.form ≡ matching_form tag
  pub served : may_serve range tag ≡ true

-- the nearness has this distance, which is below a limit, and this matching form
pub record IsNearer (limit far : ℕ) (known : Option Fields) (near : Nearness) : Type 0 where
  pub distance : near.distance ≡ far
  pub below : far < limit
  pub form : option_map field_texts near.form ≡ known
