use Rattle.langtag_keyword.proofs.Common.{◌≡◌, ℕ, ◌∷◌, [], length, get_or, None, option_map, true, AllByRecursion, IsSubtag, is_alphanumeric, join, subtags, segments_left, opens_keyword, value_of}
use Rattle.std.specs.Option.{option_or}
use Rattle.langtag_keyword.specs.KeySets.{place_of}
use Rattle.langtag_keyword.proofs.key_values.values_after.Given as goal

-- the value of a key is the one that was found, or else that among the subtags that are left
abbrev pub invariant-loop-rest : goal.invariant-loop-rest
invariant-loop-rest l = record {
  size : length l.values ≡ 36;
  each : AllByRecursion IsSubtag (segments_left l.rest);
  met :
      (second : ℕ) → is_alphanumeric second ≡ true →
      option_or (option_map (λ v. v.now) (get_or l.values (place_of second) None)) (option_map join (value_of (opens_keyword l.keys) (l.first ∷ second ∷ []) (segments_left l.rest)))
      ≡ option_map join (value_of (opens_keyword l.keys) (l.first ∷ second ∷ []) (subtags l.text));
}

abbrev pub decreases-loop-rest : goal.decreases-loop-rest
decreases-loop-rest l = length (segments_left l.rest)
