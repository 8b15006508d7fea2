-- The entries of a shortlist are the choices in turn.
use Rattle.langtag_scan.proofs.Prelude.{◌≡◌, ◌≢◌, ◌<◌, ℕ, true, false, List, Option, Some, None, length, get_or, refl, sym, ap, subst, ◌∙◌, inl, inr, arith, get_or_from_slice_get, get_or_past, cases_lt, [], ◌∷◌, ◌++◌, is_none, replicate, common_steps, eqb_tells, get_or-replicate, ◌⊎◌}
use Rattle.langtag_range.specs.Definitions.{Element}
use Rattle.langtag_choice.specs.Candidates.{IsNotAfter, rank_of}
use Rattle.langtag_choice.specs.Best.{IsChoice, Pair, rank_of_pair}
use Rattle.langtag_choice.specs.Suitable.{without}
use Rattle.langtag_choice.specs.Remaining.{without_all}
use Rattle.langtag_choice.specs.Found.{IsBestFound, IsFirst, IsListed, IsPairOf, IsShortlist, IsWorst, ListTries, TakesFirst, is_unrefused_at}
use Rattle.langtag_choice.specs.declared.candidate.Candidate.{Candidate}
use Rattle.langtag_choice.proofs.FoundLaws.{best_of, found_chosen, pair_left, unrefused_entry}
use Rattle.langtag_choice.proofs.RankLaws.{at_most_itself}
use Rattle.langtag_choice.proofs.SuitableTags.{remains, stays, stays_all, without_count, without_one_more}

-- ---- what is found is a shortlist

within_listed : (entries : List (Option Candidate)) (k : ℕ) (c : Candidate) → get_or entries k None ≡ Some c → k < length entries
within_listed entries k c is = grind (arith, cases_lt k (length entries), get_or_past)

module _ (elements : List Element) (tags : List (Option (List ℕ))) (chosen : List ℕ) (old entries : List (Option Candidate)) (worst : ℕ) (empty : (k : ℕ) → get_or old k None ≡ None) (inside : worst < length entries) (last : IsWorst entries worst) (all : ListTries elements tags (λ place index. is_unrefused_at elements (without_all tags chosen) index) old entries) where
  pair_of : (c : Candidate) → IsListed entries c → IsPairOf elements (without_all tags chosen) c
  pair_of c listed = elim (all.from c listed) [
    | inl was ↦ absurd (cc (empty was.0, was.1))
    | inr of ↦
        pair_left elements tags (without_all tags chosen) c (without_count tags chosen) (stays_all tags chosen c.index) of.1 of.0
  ]

  pub shortlist : IsShortlist elements (without_all tags chosen) (get_or entries worst None) entries
  shortlist = record {
    apart = all.apart (λ j k c d at there same. absurd (cc (empty j, at)));
    pairs = pair_of;
    below = λ c listed r at. subst (λ o. IsNotAfter o r) listed.1 (last listed.0 (within_listed entries listed.0 c listed.1) r at);
    covers = λ pair.
        let free = unrefused_entry elements (without_all tags chosen) pair.index pair.tag (get_or_from_slice_get (without_all tags chosen) pair.index (Some pair.tag) None pair.there) pair.unrefused in
        elim (all.covers pair.place pair.element pair.index pair.tag free pair.wanted (stays_all tags chosen pair.index pair.tag pair.there) pair.served) [
          | inl has ↦ inl has
          | inr none ↦ inr (none worst inside)
        ];
  }

-- ---- the first is the choice

module _ (elements : List Element) (tags : List (Option (List ℕ))) (bar : Option Candidate) (entries : List (Option Candidate)) (list : IsShortlist elements tags bar entries) (place : ℕ) where
  module _ (first : IsFirst entries place) where
    -- the rank of each pair is at least that of the first, or of the bar
    first_before :
        (pair : Pair elements tags) →
        IsNotAfter (get_or entries place None) (rank_of_pair elements tags pair)
        ⊎ IsNotAfter bar (rank_of_pair elements tags pair)
    first_before pair = elim (list.covers pair) [
      | inl has ↦ inl (grind (arith, first has.k, within_listed, has.listed, has.most))
      | inr past ↦ inr past
    ]

    pub first_best :
        (o : Option Candidate) → get_or entries place None ≡ o → (o ≡ None → bar ≡ None) → IsBestFound elements tags o
    first_best None is none = λ pair. grind (arith, first_before pair)
    first_best (Some c) is none = best_of elements tags c (list.pairs c (place, is)) (λ other. elim (first_before other) [
      | inl first ↦ rw is at first
      | inr past ↦ list.below c (place, is) _ past
    ])

  -- the others are a shortlist of the other tags
  module _ (c : Candidate) (is : get_or entries place None ≡ Some c) (left : List (Option Candidate)) (taken : get_or left place None ≡ None) (others : (k : ℕ) → (k ≡ place → ⊥) → get_or left k None ≡ get_or entries k None) where
    other_entry :
        (k : ℕ) (d : Candidate) → get_or left k None ≡ Some d → (get_or entries k None ≡ Some d) × (d.index ≢ c.index)
    other_entry k d there = grind (arith, eqb_tells k place, others, list.apart k place d c)

    pub rest_shortlist : IsShortlist elements (without tags c.index) bar left
    rest_shortlist = record {
      apart = λ j k d e at there. list.apart j k d e (other_entry j d at).0 (other_entry k e there).0;
      pairs = λ d listed. grind (arith, list.pairs d, other_entry, remains);
      below = λ d listed. list.below d (listed.0, (other_entry listed.0 d listed.1).0);
      covers = λ pair.
          let kept = stays tags c.index pair.index pair.tag pair.there in
          elim (list.covers (record { place = pair.place; element = pair.element; wanted = pair.wanted; index = pair.index; tag = pair.tag; there = kept.1; served = pair.served; unrefused = pair.unrefused })) [
            | inl has ↦
                let away : has.k ≢ place = λ same.
                let own : c ≡ has.c = cc (is, has.listed, ap (λ i. get_or entries i None) same) in kept.0 (ap (λ x. x.index) own ∙ has.here) in
                inl (record { c = has.c; k = has.k; listed = others has.k away ∙ has.listed; here = has.here; most = has.most })
            | inr past ↦ inr past
          ];
    }

-- ---- in turn

-- the candidate that is taken out is the choice, and the others are a shortlist of the other tags
module _ (elements : List Element) (tags : List (Option (List ℕ))) (chosen : List ℕ) (bar : Option Candidate) (entries left : List (Option Candidate)) (list : IsShortlist elements (without_all tags chosen) bar entries) where
  pub turn_choice : (c : Candidate) → TakesFirst entries (Some c) left → IsChoice elements (without_all tags chosen) (Some c.index)
  turn_choice c takes =
      found_chosen elements (without_all tags chosen) (Some c)
      (first_best elements (without_all tags chosen) bar entries list takes.place takes.first_is (Some c) takes.there
      (λ no. absurd cc))

  pub turn_rest : (c : Candidate) → TakesFirst entries (Some c) left → IsShortlist elements (without_all tags (chosen ++ c.index ∷ [])) bar left
  turn_rest c takes =
      subst (λ others. IsShortlist elements others bar left) (sym (without_one_more tags chosen c.index))
      (rest_shortlist elements (without_all tags chosen) bar entries list takes.place c takes.there left takes.gone takes.others)

  pub turn_none : TakesFirst entries None left → bar ≡ None → IsChoice elements (without_all tags chosen) None
  turn_none takes none =
      first_best elements (without_all tags chosen) bar entries list takes.place takes.first_is None takes.there (λ same. none)

-- a shortlist whose best entry is empty has none
pub turn_empty : (entries left : List (Option Candidate)) → TakesFirst entries None left → (k : ℕ) (c : Candidate) → get_or entries k None ≡ Some c → ⊥
turn_empty entries left takes k c there =
    let at : IsNotAfter (get_or entries k None) (rank_of c) = rw there (at_most_itself (rank_of c)) in
    rw takes.there at (takes.first_is k (within_listed entries k c there) (rank_of c) at)

-- so an entry of it that is not empty was there before
pub turn_some : (entries left : List (Option Candidate)) (k : ℕ) → TakesFirst entries None left → is_none (get_or entries k None) ≡ false → ⊥
turn_some entries left k takes some = grind (arith, turn_empty entries left takes k)

pub none_from_test : (o : Option Candidate) → is_none o ≡ true → o ≡ None
none_from_test o is = grind (arith, common_steps)

pub none_listed : (n k : ℕ) → get_or (replicate {A = Option Candidate} n None) k None ≡ None
none_listed n k = grind (arith, common_steps, cases_lt k n, get_or-replicate)

-- the only entry of a shortlist is the best
pub only_best :
    (elements : List Element) (tags : List (Option (List ℕ))) (old entries : List (Option Candidate)) → ((k : ℕ) → get_or old k None ≡ None) → length entries ≡ 1 →
    ListTries elements tags (λ place index. is_unrefused_at elements tags index) old entries → IsBestFound elements tags (get_or entries 0 None)
only_best elements tags old entries empty one all =
    first_best elements tags (get_or entries 0 None) entries
    (shortlist elements tags [] old entries 0 empty (omega (arith, one)) (λ k within r at. rw (first k within) at) all) 0
    (λ k within r at. rw (first k within) at at) (get_or entries 0 None) refl (λ none. none)
  where
    first : (k : ℕ) → k < length entries → k ≡ 0
    first k within = omega (arith, one)
