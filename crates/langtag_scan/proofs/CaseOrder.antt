-- How the order of texts without regard to case goes on from an index, and what it answers where a text has ended.
use Rattle.langtag_scan.proofs.Prelude.{◌≡◌, ℕ, suc, All, ◌+◌, ◌-◌, ◌<◌, min, true, false, List, [], ◌∷◌, length, get_or, take, drop, refl, arith, add-one, Less, Greater, Ordering, nat_cmp, Fits-of_lt, drop-cons, common_steps}
use Rattle.std.proofs.Common.{Fits, w8, length-drop, get_or-drop}
use Rattle.std.specs.Ordering.{ordering_then, is_ne}
use Rattle.std.proofs.Math.ListN.{get_or-eq_default}
use Rattle.langtag_scan.specs.Case.{fold_byte, Alike, case_cmp, EndsFirst}

-- the order from an index on is that of the bytes there, and where they tie that of what follows
case_cmp-drop :
    (a b : List ℕ) (i : ℕ) → i < length a → i < length b →
    case_cmp (drop i a) (drop i b) ≡ ordering_then (nat_cmp (fold_byte (get_or a i 0)) (fold_byte (get_or b i 0))) (case_cmp (drop (i + 1) a) (drop (i + 1) b))
case_cmp-drop a b i in_a in_b = rw (add-one, drop-cons a i 0 in_a, drop-cons b i 0 in_b) refl

module _ (a b : List ℕ) (i x y : ℕ) (o : Ordering) (in_a : i < length a) (in_b : i < length b) (at_a : x ≡ get_or a i 0) (at_b : y ≡ get_or b i 0) (at_index : o ≡ nat_cmp (fold_byte x) (fold_byte y)) where
  -- the bytes at an index tie
  pub case_cmp-tied : is_ne o ≡ false → case_cmp (drop i a) (drop i b) ≡ case_cmp (drop (i + 1) a) (drop (i + 1) b)
  case_cmp-tied tied = grind (arith, common_steps, case_cmp-drop a b i in_a in_b)

  -- the bytes at an index differ
  pub case_cmp-decided : is_ne o ≡ true → case_cmp (drop i a) (drop i b) ≡ o
  case_cmp-decided decided = grind (arith, common_steps, case_cmp-drop a b i in_a in_b)

-- the end of a text is above every byte
fold_byte-below_end : (x : ℕ) → Fits w8 x → nat_cmp (fold_byte x) 256 ≡ Less
unfolding fold_byte
fold_byte-below_end x byte = grind (arith, common_steps)

end-above_fold_byte : (x : ℕ) → Fits w8 x → nat_cmp 256 (fold_byte x) ≡ Greater
unfolding fold_byte
end-above_fold_byte x byte = grind (arith, common_steps)

-- where one text has ended, the longer one is less
pub case_cmp-ended :
    (a b : List ℕ) (i : ℕ) → ((k : ℕ) → Fits w8 (get_or a k 0)) → ((k : ℕ) → Fits w8 (get_or b k 0)) →
    i ≡ min (length a) (length b) → case_cmp (drop i a) (drop i b) ≡ nat_cmp (length b) (length a)
case_cmp-ended a b i bytes_a bytes_b ended =
    by_rest (drop i a) (drop i b) (λ k. rw get_or-drop (bytes_a (i + k))) (λ k. rw get_or-drop (bytes_b (i + k))) (length-drop i a) (length-drop i b)
  where
    by_rest :
        (s t : List ℕ) → ((k : ℕ) → Fits w8 (get_or s k 0)) → ((k : ℕ) → Fits w8 (get_or t k 0)) → length s ≡ length a - i →
        length t ≡ length b - i → case_cmp s t ≡ nat_cmp (length b) (length a)
    by_rest [] [] bytes_s bytes_t e f = let same : length b ≡ length a = omega (arith, ended) in grind (arith, common_steps, same)
    by_rest [] (y ∷ t) bytes_s bytes_t e f = grind (arith, common_steps, end-above_fold_byte y (bytes_t 0))
    by_rest (x ∷ s) [] bytes_s bytes_t e f = grind (arith, common_steps, fold_byte-below_end x (bytes_s 0))
    by_rest (x ∷ s) (y ∷ t) bytes_s bytes_t e f = absurd (omega (arith, ended))

-- of two texts of which one begins the other the shorter is the greater
pub case_cmp-ends_first : (a b : List ℕ) → ((k : ℕ) → Fits w8 (get_or b k 0)) → EndsFirst a b → case_cmp a b ≡ Greater
case_cmp-ends_first [] [] bytes ends = absurd (omega (arith, ends.0))
case_cmp-ends_first [] (y ∷ b) bytes ends = rw (end-above_fold_byte y (bytes 0)) refl
case_cmp-ends_first (x ∷ a) [] bytes ends = absurd (omega (arith, ends.0))
case_cmp-ends_first (x ∷ a) (y ∷ b) bytes ends =
    let longer : length a < length b = omega (arith, ends.0) in
    let same : fold_byte x ≡ fold_byte y = cc (ends.1) in
    let rest : Alike a (take (length a) b) = cc (ends.1) in
    rw same (grind (arith, common_steps, case_cmp-ends_first a b (λ k. bytes (suc k)) (longer, rest)))

-- each place in a list of bytes has a byte; beyond its end, 0 is read
byte-at : (b : List ℕ) → All (λ byte. byte < 256) b → (k : ℕ) → Fits w8 (get_or b k 0)
byte-at b bytes k = grind (arith, common_steps, bytes k 0, get_or-eq_default b 0 {n = k}, Fits-of_lt)

-- the law of `ComparesByCase`
pub bytes_ends_first : (a b : List ℕ) → All (λ byte. byte < 256) b → EndsFirst a b → case_cmp a b ≡ Greater
bytes_ends_first a b bytes ends = case_cmp-ends_first a b (byte-at b bytes) ends
