-- Where the first subtag ends that is refused, by how much of a text and a hyphen is viable.
use Rattle.langtag_scan.proofs.Prelude.{◌≡◌, ◌↔◌, ℕ, ◌+◌, ◌<◌, ◌≤◌, ◌⊎◌, List, [], ◌∷◌, ◌++◌, length, take, slice_index, inl, inr, sym, subst, ◌∙◌, arith, append-nil, take-length, cases_lt, take-append-le, take_all, take_more, length_push, common_steps}
use Rattle.langtag_scan.specs.Grammar.{NoHyphenWithin, IsTag, IsViable, IsViableLength, IsIrregularPrefix}
use Rattle.langtag_scan.proofs.TagLaws.{prefixes_viable, viable_from_tag}
use Rattle.langtag.specs.Refusal.{MayStand, IsRefusedEnd, EndsTooSoon, IsOpen}

-- the text up to the end of a subtag, and a hyphen
hyphened : (t : List ℕ) (k : ℕ) → k ≤ length t → (k < length t → slice_index t k ≡ 45) → take (k + 1) (t ++ 45 ∷ []) ≡ take k t ++ 45 ∷ []
hyphened t k within hyphen = grind (arith, common_steps, cases_lt, take-append-le, take_more, take_all, length_push)

module _ (t : List ℕ) (m : ℕ) (v : IsViableLength (t ++ 45 ∷ []) m) where
  -- within what is viable a hyphen may follow
  pub hyphen_viable : (k : ℕ) → k ≤ length t → (k < length t → slice_index t k ≡ 45) → k + 1 ≤ m → IsViable (take k t ++ 45 ∷ [])
  hyphen_viable k within hyphen le = subst IsViable (hyphened t k within hyphen) (v.viable (k + 1) le)

  -- and past it none may
  pub hyphen_dead : (k : ℕ) → k ≤ length t → (k < length t → slice_index t k ≡ 45) → m ≤ k → IsViable (take k t ++ 45 ∷ []) → ⊥
  hyphen_dead k within hyphen le viable = grind (arith, common_steps, length_push t 45, hyphened t k within hyphen)

  -- the first end at or past it
  pub first_end :
      (e : ℕ) → m ≤ e → e ≤ length t → NoHyphenWithin t m e → (e < length t → slice_index t e ≡ 45) → (IsTag (take e t) → ⊥) → IsRefusedEnd t e
  first_end e from within none hyphen no_tag = grind (arith, common_steps, hyphen_viable, cases_lt, hyphen_dead e within hyphen from)

  -- the end after that of a tag with which none goes on
  pub second_end :
      (e f : ℕ) → m ≤ e → e < length t → NoHyphenWithin t m e → slice_index t e ≡ 45 → IsTag (take e t) →
      e + 1 ≤ f → f ≤ length t → NoHyphenWithin t (e + 1) f → (f < length t → slice_index t f ≡ 45) → IsRefusedEnd t f
  second_end e f from below none hyphen tag after within none_after hyphen_after = record {
    within = within;
    hyphen = hyphen_after;
    refused = by_case;
    before = λ k less at. stands k less at (cases_lt k m) (cases_lt k e) (cases_lt e k);
  }
    where
      by_case : MayStand (take f t) → ⊥
      by_case (inl whole) =
          let longer : IsViable (take f t) = viable_from_tag (take f t) [] (subst IsTag (sym (append-nil (take f t))) whole) in
          let prefix : IsViable (take (e + 1) t) = prefixes_viable t f (e + 1) longer after in
          hyphen_dead e (omega (arith, below)) (λ some. hyphen) from
          (subst IsViable (sym (take-append-le (e + 1) t (45 ∷ []) (omega (arith, below))) ∙ hyphened t e (omega (arith, below)) (λ some. hyphen)) prefix)
      by_case (inr viable) = hyphen_dead f within hyphen_after (omega (arith, from, after)) viable

      stands : (k : ℕ) → k < f → slice_index t k ≡ 45 → (k < m) ⊎ (m ≤ k) → (k < e) ⊎ (e ≤ k) → (e < k) ⊎ (k ≤ e) → MayStand (take k t)
      stands k less at h first second = grind (arith, common_steps, hyphen_viable k)

  -- ---- texts that end too soon

  whole_hyphened : take (length t + 1) (t ++ 45 ∷ []) ≡ t ++ 45 ∷ []
  whole_hyphened = take_all (length t + 1) (t ++ 45 ∷ []) (omega (arith, length_push t 45))

  whole_text : take (length t) (t ++ 45 ∷ []) ≡ t
  whole_text = take-append-le (length t) t (45 ∷ []) (omega arith) ∙ take-length t

  pub viable_whole : length t ≤ m → IsViable t
  viable_whole le = subst IsViable whole_text (v.viable (length t) le)

  pub goes_on_by_hyphen : (IsTag t → ⊥) → length t < m → EndsTooSoon t
  goes_on_by_hyphen no_tag less = grind (arith, common_steps, viable_whole, whole_hyphened)

  -- a text with which no hyphen goes on, and whose last subtag has a byte
  pub irregular_left : (IsTag t → ⊥) → length t ≡ m → (IsOpen t → ⊥) → IsIrregularPrefix t ↔ EndsTooSoon t
  irregular_left no_tag all closed = grind (arith, common_steps, viable_whole, length_push, whole_hyphened)

  pub open_end : (IsTag t → ⊥) → length t ≡ m → IsOpen t → EndsTooSoon t
  open_end no_tag all ended = record { no_tag = no_tag; viable = viable_whole (omega (arith, all)); goes_on = inr (inl ended) }
