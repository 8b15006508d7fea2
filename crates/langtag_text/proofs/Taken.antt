-- What is left of a buffer that a text was written into, without the rest of the buffer.
use Rattle.langtag_scan.proofs.Prelude.{arith, common_steps, ◌≡◌, ℕ, ◌≤◌, List, ◌++◌, length, take, sym, subst, arith, append_assoc}
use Rattle.langtag_text.specs.Writes.{Writes}
use Rattle.langtag_text.specs.WritesWhole.{WritesWhole}

-- a text that was written before others is what is left of its length
taken : (text behind after rest : List ℕ) (n m : ℕ) → after ≡ text ++ behind → n ≤ m → n ≡ length text → take n (take m (after ++ rest)) ≡ text
taken text behind after rest n m is within same = grind (arith, common_steps, append_assoc text behind rest)

pub written_taken :
    (IsSo : List ℕ → Type 0) (before after rest : List ℕ) (n m : ℕ) → Writes IsSo before after n → length before ≡ m → n ≤ m → IsSo (take n (take m (after ++ rest)))
written_taken IsSo before after rest n m w room within =
    subst IsSo (sym (taken w.text _ after rest n m (w.written (omega (arith, room, within))) within w.whole)) w.is_so

-- a text that had room is left when the buffer is cut to its length
pub whole_taken :
    (IsSo : List ℕ → Type 0) (before after rest : List ℕ) (n m : ℕ) (w : WritesWhole IsSo before after n) → length before ≡ m → n ≤ m → n ≡ length w.text → IsSo (take n (take m (after ++ rest)))
whole_taken IsSo before after rest n m w room within same =
    subst IsSo (sym (taken w.text _ after rest n m (w.written (omega (arith, room, within, same))) within same)) w.is_so
