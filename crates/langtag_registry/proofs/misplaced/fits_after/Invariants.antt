use Rattle.std.proofs.Common.{length, ◌-◌}
use Rattle.langtag_place.specs.Text.{variant_text}
use Rattle.langtag_registry.specs.Matching.{AreMatching}
use Rattle.langtag_registry.proofs.MisplacedLaws.{IsLeft}
use Rattle.langtag_registry.proofs.misplaced.fits_after.Given as goal

-- no prefix before this index matches, and there is none for the variant where that is remembered
abbrev pub invariant-loop-index : goal.invariant-loop-index
invariant-loop-index l = record {
  left : IsLeft l.fn.before (variant_text l.fn.variant) l.has_none l.index;
  matching : AreMatching l.matching l.fn.before;
}

abbrev pub decreases-loop-index : goal.decreases-loop-index
decreases-loop-index l = length l.prefixes - l.index
