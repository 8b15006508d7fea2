use Rattle.langtag_keyword.proofs.Common.{None, Option, refl, sym, subst, List, ℕ, AllByRecursion, IsSubtag, arith, nat_tests}
use Rattle.langtag_scan.proofs.Prelude.{Bor, get_or-replicate}
use Rattle.langtag_keyword.specs.KeySets.{place_of}
use Rattle.langtag_keyword.proofs.KeySetLaws.{place-within}
use Rattle.langtag_keyword.proofs.key_values.values_after.Goals as goal

pub loop-rest-init : goal.loop-rest-init
loop-rest-init c = record {
  size = refl;
  each = subst (AllByRecursion IsSubtag) (sym c.nonempty-rest.ensures.segments) c.requires;
  met = λ second is. grind (arith, nat_tests, get_or-replicate {A = Option (Bor (List ℕ))} 36 (place_of second) None None (place-within second is), c.nonempty-rest.ensures.segments);
}
