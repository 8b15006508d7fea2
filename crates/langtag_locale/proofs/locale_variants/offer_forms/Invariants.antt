use Rattle.langtag_keyword.proofs.Common.{length, map, segments_left, IsOffered, Least, order_number}
use Rattle.langtag_keyword.proofs.IdentifierParts.{AreVariants}
use Rattle.langtag_locale.specs.LocaleForm.{forms}
use Rattle.langtag_locale.proofs.locale_variants.offer_forms.Given as goal

-- the forms of those that are left are offered after those before them
abbrev pub invariant-loop-rest : goal.invariant-loop-rest
invariant-loop-rest g l =
    let vs = segments_left l.variants in
    record {
      each : AreVariants (segments_left l.rest);
      so_far :
          (new : Least) → IsOffered (map order_number (forms l.language vs (segments_left l.rest))) l.least new →
          IsOffered (map order_number (forms l.language vs vs)) l.fn.least new;
    }

abbrev pub decreases-loop-rest : goal.decreases-loop-rest
decreases-loop-rest g l = length (segments_left l.rest)
