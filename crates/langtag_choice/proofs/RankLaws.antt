-- How ranks compare, and that a tag that is far is not taken.
use Rattle.langtag_scan.proofs.Prelude.{◌≡◌, ℕ, true, List, Option, Some, ap, inr, subst, unwrap_or, nat_list_cmp_total, ◌-◌, ◌==◌, ◌≤◌, ◌&&◌, ◌||◌, nat_lt, arith, ◌<◌, eqb_tells, nat_tests, and_parts, eqb-true, ltb-false, ltb-true, or_cases, common_steps}
use Rattle.langtag_range.specs.Definitions.{Element}
use Rattle.langtag_choice.specs.Serves.{serves, reach, IsAtMost, rank, service}
use Rattle.langtag_choice.specs.Candidates.{IsOfKnown, Keeps, Takes, rank_of, service_number}
use Rattle.langtag_choice.specs.declared.candidate.Candidate.{Candidate}
use Rattle.langtag_choice.specs.declared.known_tag.KnownTag.{KnownTag}
use Rattle.langtag_choice.specs.declared.wish.Wish.{Wish}

pub reach_most : (range tag : List ℕ) → reach range tag ≤ 50
unfolding reach
reach_most range tag = grind (arith, nat_tests)

-- what was found for a heavier range, or for an earlier one of that weight, and serves it no worse
pub settled :
    (c : Candidate) (place : ℕ) (element : Element) (index : ℕ) (tag : List ℕ) → service_number c.rank.service ≤ service (reach element.range tag) →
    (nat_lt c.rank.lack (1000 - element.weight) || ((c.rank.lack == (1000 - element.weight)) && nat_lt c.rank.place place)) ≡ true → IsAtMost (rank_of c) (rank place element index tag)
unfolding rank
settled c place element index tag serves before = grind (arith, common_steps, or_cases, ltb-true, and_parts, eqb-true, nat_tests, ltb-false, eqb_tells)

-- what was found for the same range, serves it no worse and is nearer
pub settled_nearer :
    (c : Candidate) (place : ℕ) (element : Element) (index : ℕ) (tag : List ℕ) → service_number c.rank.service ≤ service (reach element.range tag) →
    c.rank.distance < reach element.range tag → ((c.rank.lack == (1000 - element.weight)) && (c.rank.place == place)) ≡ true → IsAtMost (rank_of c) (rank place element index tag)
unfolding rank
settled_nearer c place element index tag serves nearer same = grind (arith, common_steps, ltb-true, and_parts, eqb-true, nat_tests, ltb-false, eqb_tells)

pub at_most_itself : (a : List ℕ) → IsAtMost a a
at_most_itself a = grind (arith, common_steps, nat_list_cmp_total.antisymm a a)

-- a candidate that is better than what was found replaces it
pub taken : (wish : Wish) (tag : KnownTag) (index : ℕ) (old : Option Candidate) (next : Candidate) → Keeps old (Some next) → IsOfKnown wish tag index next → Takes wish tag index old (Some next)
taken wish tag index old next keeps of = record {
  keeps = keeps;
  covers = λ known served. subst (IsAtMost (rank_of next)) (of.2 known).same_rank (at_most_itself (rank_of next));
  from = λ c is. inr (subst (IsOfKnown wish tag index) (ap (λ o. unwrap_or o next) is) of);
}
