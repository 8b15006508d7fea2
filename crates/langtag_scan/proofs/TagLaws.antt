-- Tags, the prefixes that some tag begins with, and where a text stops (RFC 5646 section 2.1).
use Rattle.langtag_scan.proofs.Prelude.{◌≡◌, ℕ, ◌+◌, ◌<◌, ◌≤◌, List, ◌++◌, length, take, drop, inl, inr, sym, subst, arith, append_assoc, take-length, common_steps, take-append-drop, take-take}
use Rattle.langtag_scan.specs.Grammar.{IsNormal, IsPrivate, IsIrregular, IsIrregularAt, IsTag, IsViable, IsViableLength, IsStop}

-- ---- a text of one of the three kinds is a tag

pub tag_normal : (t : List ℕ) → IsNormal t → IsTag t
unfolding IsTag
tag_normal t normal = inl normal

pub tag_private : (t : List ℕ) → IsPrivate t → IsTag t
unfolding IsTag
tag_private t private = inr (inl private)

pub tag_of_irregular : (t : List ℕ) → IsIrregular t → IsTag t
unfolding IsTag
tag_of_irregular t irregular = inr (inr irregular)

pub tag_irregular : (t : List ℕ) (k : ℕ) → IsIrregularAt k t → IsTag t
unfolding IsIrregular
tag_irregular t k irregular = tag_of_irregular t (k, irregular)

-- ---- the prefixes of a tag are viable

pub viable_from_tag : (p u : List ℕ) → IsTag (p ++ u) → IsViable p
unfolding IsViable
viable_from_tag p u tag = (u, tag)

-- a text with a prefix that is not viable is not a tag
pub no_tag_dead : (t : List ℕ) (i : ℕ) → (IsViable (take i t) → ⊥) → IsTag t → ⊥
no_tag_dead t i dead tag = dead (viable_from_tag (take i t) (drop i t) (subst IsTag (sym (take-append-drop i t)) tag))

-- ---- the stop

-- each prefix of a viable prefix is viable
pub prefixes_viable : (t : List ℕ) (i k : ℕ) → IsViable (take i t) → k ≤ i → IsViable (take k t)
unfolding IsViable
prefixes_viable t i k v le = grind (arith, common_steps, take-take k i t le, take-append-drop k (take i t), append_assoc)

-- a text stops at its first prefix that is not viable, or else at its end
pub stop_at : (t : List ℕ) (i : ℕ) → i ≤ length t → ((k : ℕ) → k < i → IsViable (take k t)) → (IsViable (take i t) → ⊥) → IsStop t i
stop_at t i within before dead = record { within = within; before = before; at = inr dead }

pub stop_whole : (t : List ℕ) → IsViable t → IsStop t (length t)
stop_whole t viable = grind (arith, common_steps, take-length t, prefixes_viable t (length t))

-- ---- the viable length

-- a prefix that is viable, while one byte more is not
pub viable_up_to : (t : List ℕ) (i : ℕ) → i ≤ length t → IsViable (take i t) → (IsViable (take (i + 1) t) → ⊥) → IsViableLength t i
viable_up_to t i within viable dead = grind (arith, common_steps, prefixes_viable)

-- the length of the text, if it is viable as a whole
pub viable_whole : (t : List ℕ) (i n : ℕ) → i ≡ length t → n ≡ i → IsViable (take i t) → IsViableLength t n
viable_whole t i n at is viable = grind (arith, common_steps, prefixes_viable)
