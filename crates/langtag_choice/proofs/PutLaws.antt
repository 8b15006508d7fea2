-- What is put among the best candidates, and what is taken out.
use Rattle.langtag_scan.proofs.Prelude.{◌≡◌, ◌≢◌, common_steps, nat_tests, ◌⊎◌, ◌<◌, ◌+◌, ◌==◌, ◌&&◌, ℕ, Bool, List, Option, Some, None, MatchOption, length, get_or, set, unwrap_or, refl, sym, subst, ◌∙◌, inl, inr, arith, eqb_tells, eqb-true, and_parts, length-set, get_or-set_other, get_or-set_at, false, true, nat_list_cmp_total, slice_cmp, nat_cmp, is_lt}
use Rattle.std.proofs.lemmas.Cmp.{upto, is_lt_index, is_gt_index}
use Rattle.langtag_range.specs.Definitions.{Element}
use Rattle.langtag_choice.specs.Serves.{IsAtMost}
use Rattle.langtag_choice.specs.Candidates.{IsNotAfter, Keeps}
use Rattle.langtag_choice.specs.Found.{AreAllBefore, AreApart, HasEntry, IsCovered, IsListed, IsOfTag, IsWorst, ListTries, Puts, Tries}
use Rattle.langtag_choice.specs.declared.candidate.Candidate.{Candidate}

-- a list that is before another is before all that the other is not after
pub before_all : (a b r : List ℕ) → is_lt (slice_cmp nat_cmp a b) ≡ true → IsAtMost b r → IsAtMost a r
before_all a b r is = upto nat_list_cmp_total a b r (grind (arith, is_lt_index, is_gt_index, nat_tests))

-- a list that is not before another is after it, and so after all that are before the other
pub turned_at_most : (a b : List ℕ) → is_lt (slice_cmp nat_cmp a b) ≡ false → IsAtMost b a
turned_at_most a b is = grind (arith, common_steps, nat_list_cmp_total.antisymm b a)

pub not_before : (a b r : List ℕ) → is_lt (slice_cmp nat_cmp a b) ≡ false → IsAtMost a r → IsAtMost b r
not_before a b r is = upto nat_list_cmp_total b a r (turned_at_most a b is)

-- what holds at each place below one, and there
pub each_place : (P : ℕ → Type 0) (place : ℕ) → P place → ((k : ℕ) → k < place → P k) → (k : ℕ) → k < place + 1 → P k
each_place P place here before k below = grind (arith, eqb_tells k place)

-- the entry at a place has the tag of a candidate, or it is the worst, and no entry has that tag
abbrev pub IsPlaceFor : Candidate → List (Option Candidate) → ℕ → ℕ → Type 0
IsPlaceFor candidate old worst place = IsOfTag old place candidate.index ⊎ ((place ≡ worst) × ((c : Candidate) → IsListed old c → (c.index ≡ candidate.index → ⊥)))

pub place_for :
    (candidate : Candidate) (old : List (Option Candidate)) (worst place : ℕ) (found : Option ℕ) → place ≡ unwrap_or found worst →
    MatchOption found ((c : Candidate) → IsListed old c → (c.index ≡ candidate.index → ⊥)) (λ place. (place < length old) × IsOfTag old place candidate.index) → IsPlaceFor candidate old worst place
place_for candidate old worst place None is none = inr (is, none)
place_for candidate old worst place (Some p) is some = inl (subst (λ k. IsOfTag old k candidate.index) (sym is) some.1)

module _ (candidate : Candidate) (old : List (Option Candidate)) (worst place : ℕ) (last : IsWorst old worst) (for : IsPlaceFor candidate old worst place) where
  -- it was no better than the entry at its place
  pub puts_none : Keeps (Some candidate) (get_or old place None) → Puts candidate old old
  puts_none stays = record {
    keeps = λ index r covered. covered;
    covers = λ r most. elim for [
      | inl own ↦ inl (record { c = own.0; k = place; listed = own.1; here = own.2; most = rw own.1 at (stays r most) })
      | inr free ↦ inr (λ k within. last k within r (rw free.0 at (stays r most)))
    ];
    from = λ c listed. inl listed;
    apart = λ apart. apart;
  }

  module _ (inside : place < length old) (keeps : Keeps (get_or old place None) (Some candidate)) where
    abbrev put : List (Option Candidate)
    put = set old place (Some candidate)

    put_here : get_or put place None ≡ Some candidate
    put_here = get_or-set_at old place place (Some candidate) None refl inside

    put_all : (r : List ℕ) → AreAllBefore old r → AreAllBefore put r
    put_all r all k within = grind (arith, all, keeps r, eqb_tells k place, length-set, get_or-set_other, get_or-set_at)

    -- the worst entry stays the worst if another entry got better
    pub stays_worst : worst ≢ place → IsWorst put worst
    stays_worst differs k within r at = grind (arith, put_all, last, get_or-set_other)

    put_entry : (index : ℕ) (r : List ℕ) → HasEntry old index r → IsCovered put index r
    put_entry index r has = elim (eqb_tells has.k place) [
      | inl same ↦
          let there : get_or old place None ≡ Some has.c = rw (← same.1) has.listed in
          let at : IsNotAfter (get_or old place None) r = rw there has.most in
          elim for [
            | inl own ↦
                let same_index : candidate.index ≡ index = cc (there, own.1, own.2, has.here) in
                inl (record { c = candidate; k = place; listed = put_here; here = same_index; most = keeps r at })
            | inr free ↦ inr (put_all r (λ k within. last k within r (rw free.0 at at)))
          ]
      | inr other ↦
          inl (record { c = has.c; k = has.k; listed = grind (arith, get_or-set_other); here = has.here; most = has.most })
    ]

    -- no other entry has its tag
    put_alone : AreApart old → (k : ℕ) (d : Candidate) → k ≢ place → get_or old k None ≡ Some d → candidate.index ≡ d.index → ⊥
    put_alone apart k d differs there same = elim for [
      | inl own ↦ differs (apart k place d own.0 there own.1 (sym same ∙ sym own.2))
      | inr free ↦ free.1 d (k, there) (sym same)
    ]

    put_apart : AreApart old → AreApart put
    put_apart apart j k c d at there same =
        grind (arith, put_alone apart, apart j k, eqb_tells j place, eqb_tells k place, get_or-set_other, get_or-set_at)

    pub puts : Puts candidate old put
    puts = record {
      keeps = λ index r covered. grind (arith, put_entry, put_all);
      covers = λ r most. inl (record { c = candidate; k = place; listed = put_here; here = refl; most = most });
      from = λ c listed. grind (arith, eqb_tells listed.0 place, get_or-set_at, get_or-set_other);
      apart = put_apart;
    }

-- ---- the tag at an index

module _ (elements : List Element) (tags : List (Option (List ℕ))) (place index worst : ℕ) (best : List (Option Candidate)) (next : Option Candidate) (last : IsWorst best worst) (tries : Tries elements tags (λ p i. (i == index) && (p == place)) (get_or best worst None) next) where
  abbrev IsHere : ℕ → ℕ → Bool
  IsHere p i = (i == index) && (p == place)

  -- a candidate of another tag was found, so it was the worst entry
  pub tries_none : (c : Candidate) → next ≡ Some c → c.index ≢ index → ListTries elements tags IsHere best best
  tries_none c is other = record {
    keeps = λ i r covered. covered;
    covers = λ p element i tag tried wanted there served. inr (λ k within.
        let found = tries.covers p element i tag tried wanted there served in
        grind (arith, found, tries.from c is, last k within, and_parts, eqb-true));
    from = λ c listed. inl listed;
    apart = λ apart. apart;
  }

  -- a candidate of this tag was put among them
  pub tries_put : (candidate : Candidate) (new : List (Option Candidate)) → next ≡ Some candidate → candidate.index ≡ index → Puts candidate best new → ListTries elements tags IsHere best new
  tries_put candidate new is own puts = record {
    keeps = puts.keeps;
    covers = λ p element i tag tried wanted there served.
        grind (arith, puts.covers, tries.covers p element i tag tried wanted there served, and_parts, eqb-true);
    from = λ c listed. grind (arith, puts.from c listed, tries.from c);
    apart = puts.apart;
  }
