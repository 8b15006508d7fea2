-- A prefix is viable exactly where it fills to a tag or begins an irregular text.
use Rattle.langtag_scan.proofs.Prelude.{set, option_map_or, replicate, inl, ℕ, List, [], ◌∷◌, ◌++◌, length, Some, None, sym, arith, append_assoc, append-nil, Option, ◌↔◌, ◌⊎◌, subst, take, drop, map-append, length-map, take-map, common_steps, take-append_seam, nat_tests}
use Rattle.langtag_scan.specs.Grammar.{IsTag, IsIrregular, IsIrregularAt, IsViable, filling, IsIrregularPrefix, fold_byte, fold_text}
use Rattle.langtag_scan.specs.Viable.{fill}
use Rattle.langtag_scan.specs.Position.{begun_after}
use Rattle.langtag_scan.specs.Grammar.{Begun, position_of}
use Rattle.langtag_scan.proofs.PositionLaws.{place_before, Tracks, tracks_nothing, tracks_push, position_of-push}
use Rattle.langtag_scan.proofs.SubtagReading.{reads_filled}
use Rattle.langtag_scan.proofs.TagLaws.{viable_from_tag, tag_irregular}

-- ---- prefixes of irregular texts

-- a text that is alike an irregular one begins with prefixes of it
prefix_from_irregular : (p u : List ℕ) (k : ℕ) → IsIrregularAt k (p ++ u) → IsIrregularPrefix p
unfolding IsIrregularAt IsIrregularPrefix
prefix_from_irregular p u k (name, at, same) =
    grind (arith, common_steps, map-append fold_byte p u, length-map p fold_byte, take-append_seam (fold_text p) (fold_text u), take-map fold_byte (length p) name)

irregular_from_prefix : (p : List ℕ) → IsIrregularPrefix p → IsViable p
unfolding IsIrregularAt IsIrregularPrefix
irregular_from_prefix p (k, name, at, same) =
    let rest = drop (length p) name in
    grind (arith, common_steps, map-append fold_byte (take (length p) name) rest, viable_from_tag p rest, tag_irregular (p ++ rest) k)

-- ---- the law

-- each text is tracked, byte by byte
tracked_from : (q places p : List ℕ) → Tracks q places (position_of q).begun → (others : List ℕ) × Tracks (q ++ p) others (position_of (q ++ p)).begun
tracked_from q places [] known = (places, rw (append-nil q) known)
tracked_from q places (b ∷ p) known =
    let places_on = set places (place_before (option_map_or (begun_after b) (position_of q).begun None)) (length q) in
    rw (← append_assoc q (b ∷ []) p) (tracked_from (q ++ b ∷ []) places_on p (rw (position_of-push q b) (tracks_push q places b _ known)))

by_begun : (p places : List ℕ) (o : Option Begun) → Tracks p places o → IsViable p → IsTag (fill p) ⊎ IsIrregularPrefix p
unfolding IsViable IsTag IsIrregular
by_begun p places None stopped is = grind (arith, nat_tests, prefix_from_irregular p)
by_begun p places (Some s) known is = inl (subst (λ last. IsTag (p ++ filling last)) (sym known.part.last) (reads_filled known.part))

fill_from_viable : (p : List ℕ) → IsViable p → IsTag (fill p) ⊎ IsIrregularPrefix p
fill_from_viable p is = by_begun p _ _ (tracked_from [] (replicate 6 0) p tracks_nothing).1 is

pub viable_fill : (p : List ℕ) → IsViable p ↔ (IsTag (fill p) ⊎ IsIrregularPrefix p)
viable_fill p = grind (arith, common_steps, fill_from_viable, viable_from_tag, irregular_from_prefix)
