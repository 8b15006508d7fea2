use Rattle.std.proofs.Common.{take}
use Rattle.langtag.specs.Definitions.{variants_left, normal_lang_tag_text}
use Rattle.langtag_scan.specs.Record.{EachRecord}
use Rattle.langtag_registry.specs.Matching.{AreMatching}
use Rattle.langtag_registry.proofs.MisplacedLaws.{IsWalked}
use Rattle.langtag_registry.proofs.misplaced.misplaced_variant.Given as goal

-- the variants before the end fit, and the prefixes that are marked match what stands before it
abbrev pub invariant-loop-variant : goal.invariant-loop-variant
invariant-loop-variant l = record {
  can_next : (goal.iterator-loop-variant).can_next l.variant-iterator;
  is_finite : (goal.iterator-loop-variant).is_finite l.variant-iterator;
  walked : EachRecord (normal_lang_tag_text l.fn.tag) (λ r. IsWalked r l.end (variants_left l.variant-iterator));
  matching : AreMatching l.matching (take l.end (normal_lang_tag_text l.fn.tag));
}
