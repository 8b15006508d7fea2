use Rattle.std.proofs.Common.{◌≡◌, ◌↔◌, true, option_map, sym, subst}
use Rattle.langtag_place.specs.Text.{region_text}
use Rattle.langtag_canonical.specs.Canonical.{canonical_region}
use Rattle.langtag_canonical.proofs.ReplacedSubtags.{region_stays}
use Rattle.langtag_canonical.proofs.form.is_canonical_region.Goals as goal

pub returns-in-Some : goal.returns-in-Some
returns-in-Some c =
    subst (λ o. (c.is_none.result ≡ true) ↔ (canonical_region (option_map region_text o) ≡ option_map region_text o)) (sym c.in-Some.is)
    (region_stays region_text c.preferred_region.result (region_text c.in-Some.region) c.is_none.result c.preferred_region.ensures c.is_none.ensures)
