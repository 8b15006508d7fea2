-- What a position says is so: which tags may follow the bytes that led to it, where their parts have ended, and what they are as a whole text.
use Rattle.langtag_scan.proofs.Prelude.{◌≡◌, ℕ, ◌+◌, ◌<◌, ◌≤◌, Bool, true, false, cond, eqb, eqb-true, List, [], ◌∷◌, ◌++◌, length, get_or, set, Option, Some, None, refl, arith, append_assoc, append-nil, sym, ap, ◌∙◌, MatchOption, replicate, take, subst, option_map_or, and-true, cases_lt, and_parts, lt-ltb, ltb-true, both_ways, common_steps, length_push, length-set, map-append, take_more, take_all, length-take, get_or-replicate, position-Some, fold-append, fails_before_first, bytes_eq-Decides, ne_eqb, position, bytes_eq, option_map, nat_tests}
use Rattle.std.proofs.Math.Nat.{max-le, max-eq_left, max-eq_right}
use Rattle.std.proofs.lemmas.Bool.{and_left}
use Rattle.std.proofs.lemmas.List.{set-get_or}
use Rattle.langtag_scan.specs.Grammar.{fold_byte, fold_text, grandfathered_tags, irregular_texts, folded_texts, is_prefix, is_possible, kind_after, kind_of, IsBegun, end_at, HasStopped, ends_at, found_by, outcome, IsRefused, Begun, nothing_read, possible_index, irregular_after, position_after, position_of, part_before, ending_of, is_dead, Stage, Start, after_stage, may_end, IsFoundOf, IsPrivate, IsIrregular, IsIrregularAt, IsTag, IsViable, IsViableLength, IsStop, Language, Extended, AfterScript, AfterRegion, AfterVariant, AfterSingleton, InExtension, AfterMark, InPrivate, AfterFirstMark, InPrivateTag}
use Rattle.langtag_scan.specs.Machine.{all_at}
use Rattle.langtag_scan.specs.Position.{fresh, may_grow, stage_after, begun_after, place_of, ending_after, irregular_ending}
use Rattle.langtag_scan.specs.declared.ends.Ends.{Ends}
use Rattle.langtag_scan.proofs.IrregularTexts.{is_prefix-push, seventeen_folded, irregular_from_fold, irregular_fold, possible_viable, possible_prefix}
use Rattle.langtag_scan.proofs.SubtagFacts.{classes_of-kind}
use Rattle.langtag_scan.proofs.SubtagReading.{last-hyphen, last-push, IsPartRead, reads_nothing, reads_after, refused_stops, stuck_stops, reads_viable, reads_ended}
use Rattle.langtag_scan.proofs.Running.{empty_begun, begun_push, begun_parts, found_after}
use Rattle.langtag_scan.proofs.StageLaws.{after_not_start}
use Rattle.langtag_scan.specs.declared.state.Ending.{Ending}
use Rattle.langtag_scan.specs.declared.state.Ending.TheVariants.{NoTag, Normal, PrivateUse, Irregular}
use Rattle.langtag_scan.proofs.FoundLaws.{Decides, decided}
use Rattle.langtag_scan.proofs.TagLaws.{tag_irregular, viable_from_tag, no_tag_dead, prefixes_viable, stop_at, stop_whole, viable_up_to}
use Rattle.langtag_scan.specs.declared.finding.Finding.TheVariants as finding

pub position_of-push : (q : List ℕ) (b : ℕ) → position_of (q ++ b ∷ []) ≡ position_after (position_of q) b
position_of-push q b = fold-append position_after nothing_read q (b ∷ [])

-- ---- the ends

-- up to an index the ends stand in these places
pub record IsMarked (places : List ℕ) (n : ℕ) (e : Ends) : Type 0 where
  pub six : length places ≡ 6
  pub below : (k : ℕ) → get_or places k 0 ≤ n
  pub is : e ≡ ends_at places e.whole

placed : (places : List ℕ) (k n j : ℕ) → k < length places → get_or (set places k n) j 0 ≡ cond (eqb j k) n (get_or places j 0)
placed places k n j within = grind (arith, common_steps)

below_set : (places : List ℕ) (k n : ℕ) → k < length places → ((j : ℕ) → get_or places j 0 ≤ n) → (j : ℕ) → get_or (set places k n) j 0 ≤ n + 1
below_set places k n within below j = let old = below j in grind (arith, common_steps, old)

-- no part ends
marked_on : (places : List ℕ) (n : ℕ) (e : Ends) → IsMarked places n e → IsMarked (set places 5 n) (n + 1) e
marked_on places n e m = grind (arith, common_steps, length-set, below_set, placed)

module _ (places : List ℕ) (n whole : ℕ) (six : length places ≡ 6) (below : (k : ℕ) → get_or places k 0 ≤ n) where
  at : (k j : ℕ) → k < 6 → get_or (set places k n) j 0 ≡ cond (eqb j k) n (get_or places j 0)
  at k j within = placed places k n j (omega (arith, six, within))

  -- the language ends at the index
  language_ends : all_at n ≡ ends_at (set places 0 n) n
  language_ends = grind (arith, nat_tests, at 0 0, at 0 1, at 0 2, at 0 3, at 0 4, max-eq_right, below 1, below 2, below 3, below 4)

  -- the extensions end at the index
  extensions_end : end_at InExtension n (ends_at places whole) ≡ ends_at (set places 4 n) n
  extensions_end = grind (arith, nat_tests, at 4 0, at 4 1, at 4 2, at 4 3, at 4 4, max-eq_left, max-le, below 0, below 1, below 2, below 3)

  -- no part before the private use part ends at the index
  others_end : end_at InPrivate n (ends_at places whole) ≡ ends_at (set places 5 n) n
  others_end = rw (at 5 0 (omega arith), at 5 1 (omega arith), at 5 2 (omega arith), at 5 3 (omega arith), at 5 4 (omega arith)) refl

  -- the part of a stage ends at the index
  stage_ends : (after : Stage) → (after ≡ Start → ⊥) → end_at after n (ends_at places whole) ≡ ends_at (set places (place_of after) n) n
  stage_ends Start past = absurd (past refl)
  stage_ends (Language taken) past = language_ends
  stage_ends (Extended taken) past = language_ends
  stage_ends AfterScript past = grind (arith, nat_tests, at 1 0, at 1 1, at 1 2, at 1 3, at 1 4, max-eq_left, below 0, max-eq_right, below 2, below 3, below 4)
  stage_ends AfterRegion past = grind (arith, nat_tests, at 2 0, at 2 1, at 2 2, at 2 3, at 2 4, max-eq_left, max-le, max-eq_right, below 0, below 1, below 3, below 4)
  stage_ends AfterVariant past = grind (arith, nat_tests, at 3 0, at 3 1, at 3 2, at 3 3, at 3 4, max-eq_left, max-le, below 0, below 1, below 2, max-eq_right, below 4)
  stage_ends AfterSingleton past = extensions_end
  stage_ends InExtension past = extensions_end
  stage_ends AfterMark past = others_end
  stage_ends InPrivate past = others_end
  stage_ends AfterFirstMark past = others_end
  stage_ends InPrivateTag past = others_end

-- the part of a stage ends at the index
ends_set : (places : List ℕ) (n : ℕ) (e : Ends) (after : Stage) → (after ≡ Start → ⊥) → IsMarked places n e → end_at after n e ≡ ends_at (set places (place_of after) n) (end_at after n e).whole
ends_set places n e after past m =
    let is = stage_ends places n e.whole m.six m.below after past in
    subst (λ (d : Ends). end_at after n d ≡ ends_at (set places (place_of after) n) (end_at after n d).whole) (sym m.is) (is ∙ ap (ends_at (set places (place_of after) n)) (sym (ap (λ (d : Ends). d.whole) is)))

pub marked_end : (places : List ℕ) (n : ℕ) (e : Ends) (after : Stage) → (after ≡ Start → ⊥) → IsMarked places n e → IsMarked (set places (place_of after) n) (n + 1) (end_at after n e)
marked_end places n e after past m = grind (arith, common_steps, length-set, below_set, ends_set)

-- ---- the subtag that has begun

-- the bytes q have led to this subtag, and the ends before it stand in these places
pub record IsTracked (q places : List ℕ) (s : Begun) : Type 0 where
  pub before : List ℕ
  pub bytes : List ℕ
  pub ends : Ends
  pub part : IsPartRead before bytes q s.stage ends
  pub kind : s.kind ≡ kind_of bytes
  pub size : s.size ≡ length bytes
  pub marked : IsMarked places (length q) ends

abbrev pub Tracks : List ℕ → List ℕ → Option Begun → Type 0
Tracks q places o = MatchOption o (HasStopped q) (IsTracked q places)

-- the place that is set with the byte that leads there
abbrev pub place_before : Option Begun → ℕ
place_before o = option_map_or (λ s. cond (eqb s.size 0) (place_of s.stage) 5) o 5

pub place_before_within : (o : Option Begun) → place_before o < 6
place_before_within o = grind (arith, common_steps)

pub tracks_nothing : Tracks [] (replicate 6 0) (Some (fresh Start))
tracks_nothing = grind (arith, common_steps, reads_nothing, empty_begun Start)

begun_grows : (s : Begun) (bytes : List ℕ) (b : ℕ) → s.size ≡ length bytes → IsBegun s.stage (bytes ++ b ∷ []) → may_grow s b ≡ true
begun_grows s bytes b size begun = grind (arith, common_steps, begun_parts, and_parts, lt-ltb, length_push, both_ways, and-true)

module _ (q places : List ℕ) (s : Begun) (known : IsTracked q places s) where
  -- the stage after the subtag follows from what is known of it
  pub stage_is : stage_after s ≡ after_stage s.stage known.bytes
  stage_is = grind (arith, common_steps, classes_of-kind known.bytes known.part.begun.short known.part.begun.alphanumeric)

  grows_begun : (b : ℕ) → may_grow s b ≡ true → IsBegun s.stage (known.bytes ++ b ∷ [])
  grows_begun b grows = grind (arith, common_steps, and_parts, begun_push, ltb-true, and-true)

  at_hyphen : (o : Option Stage) → stage_after s ≡ o → Tracks (q ++ 45 ∷ []) (set places (place_before (option_map fresh o)) (length q)) (option_map fresh o)
  at_hyphen None next = refused_stops known.part (sym stage_is ∙ next)
  at_hyphen (Some after) next =
      let led = sym stage_is ∙ next in
      record {
        before = q ++ 45 ∷ [];
        bytes = [];
        ends = end_at after (length q) known.ends;
        part = record { split = append-nil (q ++ 45 ∷ []); last = last-hyphen q; reads = reads_after known.part after led; begun = empty_begun after };
        kind = refl;
        size = refl;
        marked = rw (length_push q 45) (marked_end places (length q) known.ends after (after_not_start s.stage after known.bytes led) known.marked);
      }

  at_other :
      (b : ℕ) → eqb b 45 ≡ false → (grows : Bool) → may_grow s b ≡ grows →
      let grown : Option Begun = cond grows (Some (record { stage = s.stage; kind = kind_after s.kind b; size = s.size + 1 })) None in
      Tracks (q ++ b ∷ []) (set places (place_before grown) (length q)) grown
  at_other b other false stuck = stuck_stops known.part b other (λ begun. both_ways (may_grow s b) stuck (begun_grows s known.bytes b known.size begun))
  at_other b other true grows = record {
    before = known.before;
    bytes = known.bytes ++ b ∷ [];
    ends = known.ends;
    part = record {
      split = sym (append_assoc known.before known.bytes (b ∷ [])) ∙ ap (λ x. x ++ b ∷ []) known.part.split;
      last = last-push q b other ∙ ap (λ x. x ++ b ∷ []) known.part.last;
      reads = known.part.reads;
      begun = grows_begun b grows;
    };
    kind = ap (λ kind. kind_after kind b) known.kind ∙ sym (fold-append kind_after _ known.bytes (b ∷ []));
    size = omega (arith, known.size, length_push known.bytes b);
    marked = rw (length_push q b, ne_eqb (s.size + 1) 0 (λ e. omega (arith, e))) (marked_on places (length q) known.ends known.marked);
  }

  by_hyphen : (b : ℕ) (v : Bool) → eqb b 45 ≡ v →
      let next : Option Begun = cond v (option_map fresh (stage_after s)) (cond (may_grow s b) (Some (record { stage = s.stage; kind = kind_after s.kind b; size = s.size + 1 })) None) in
      Tracks (q ++ b ∷ []) (set places (place_before next) (length q)) next
  by_hyphen b true at = rw (eqb-true b 45 at) (at_hyphen (stage_after s) refl)
  by_hyphen b false at = at_other b at (may_grow s b) refl

-- one byte more
pub tracks_push : (q places : List ℕ) (b : ℕ) (o : Option Begun) → Tracks q places o → Tracks (q ++ b ∷ []) (set places (place_before (option_map_or (begun_after b) o None)) (length q)) (option_map_or (begun_after b) o None)
tracks_push q places b o known = grind (arith, common_steps, append_assoc, by_hyphen q places)

-- ---- the irregular texts

-- no irregular text begins with the bytes q, or these, folded, are the prefix of one
abbrev pub FollowsIrregular : List ℕ → Option (List ℕ) → Type 0
FollowsIrregular q o = MatchOption o ((k : ℕ) → k < 17 → is_possible q k ≡ false) (λ p. (p ≡ fold_text q) × (k : ℕ) × (possible_index p ≡ Some k) × (k < 17) × (is_possible q k ≡ true))

fold_text-push : (q : List ℕ) (b : ℕ) → fold_text (q ++ b ∷ []) ≡ fold_text q ++ fold_byte b ∷ []
fold_text-push q b = map-append fold_byte q (b ∷ [])

by_index : (q : List ℕ) (o : Option ℕ) → possible_index (fold_text q) ≡ o → FollowsIrregular q (option_map (λ k. fold_text q) o)
by_index q o at =
    grind (arith, common_steps, seventeen_folded, position-Some (is_prefix (fold_text q)) folded_texts, cases_lt, fails_before_first, lt-ltb)

pub irregular_push : (q : List ℕ) (b : ℕ) (o : Option (List ℕ)) → FollowsIrregular q o → FollowsIrregular (q ++ b ∷ []) (option_map_or (irregular_after b) o None)
irregular_push q b None none = grind (arith, common_steps, fold_text-push, is_prefix-push, and_left)
irregular_push q b (Some p) (is, k, at, within, possible) =
    grind (arith, common_steps, fold_text-push q b, by_index (q ++ b ∷ []) (possible_index (fold_text (q ++ b ∷ []))) refl)

follows_from : (p q : List ℕ) → FollowsIrregular p (position_of p).irregular → FollowsIrregular (p ++ q) (position_of (p ++ q)).irregular
follows_from p [] known = rw (append-nil p) known
follows_from p (b ∷ q) known = grind (arith, common_steps, irregular_push, position_of-push, append_assoc, follows_from (p ++ b ∷ []) q)

pub follows_irregular : (q : List ℕ) → FollowsIrregular q (position_of q).irregular
unfolding folded_texts irregular_texts grandfathered_tags
follows_irregular q = follows_from [] q (by_index [] (Some 0) refl)

-- ---- which prefixes are viable

-- a text that may still become an irregular one
pub viable_possible : (p : List ℕ) (k : ℕ) → k < 17 → is_possible p k ≡ true → IsViable p
viable_possible p k within possible = grind (arith, common_steps, possible_viable p k within possible, viable_from_tag p, tag_irregular)

-- some tag begins with the empty text
pub viable_nothing : IsViable []
viable_nothing = viable_possible [] 0 (omega arith) refl

pub dead_not_viable : (q places : List ℕ) → Tracks q places (position_of q).begun → is_dead (position_of q) ≡ true → IsViable q → ⊥
unfolding IsViable IsTag IsIrregular
dead_not_viable q places tracks dead = grind (arith, common_steps, possible_prefix, both_ways, follows_irregular q)

pub alive_viable : (q places : List ℕ) → Tracks q places (position_of q).begun → is_dead (position_of q) ≡ false → IsViable q
alive_viable q places tracks alive = grind (arith, nat_tests, viable_possible q, reads_viable, follows_irregular q)

-- ---- a whole text

-- the text is what its last position says, where its last part ends with it
abbrev pub IsEnded : List ℕ → List ℕ → Ending → Type 0
IsEnded t places NoTag = IsTag t → ⊥
IsEnded t places (Normal place) = IsFoundOf t (finding.Normal (ends_at (set places place (length t)) (length t)))
IsEnded t places PrivateUse = IsPrivate t
IsEnded t places (Irregular k) = IsIrregularAt k t

-- a text that is of none of the three kinds is not a tag
no_tag : (t : List ℕ) → IsRefused t → (IsIrregular t → ⊥) → IsTag t → ⊥
unfolding IsTag
no_tag t refused never h = grind (arith, common_steps)

module _ (t places : List ℕ) (refused : IsRefused t) where
  by_text : (o : Option ℕ) → position (bytes_eq (fold_text t)) folded_texts ≡ o → IsEnded t places (option_map_or Irregular o NoTag)
  unfolding IsIrregular
  by_text o at =
      grind (arith, common_steps, no_tag, irregular_fold, seventeen_folded, both_ways, bytes_eq-Decides, position-Some, irregular_from_fold, cases_lt, fails_before_first, lt-ltb)

  -- what is neither normal nor for private use may be irregular
  refused_ended : (o : Option (List ℕ)) → FollowsIrregular t o → IsEnded t places (option_map_or irregular_ending o NoTag)
  unfolding IsIrregular
  refused_ended None gone = grind (arith, common_steps, no_tag t refused, possible_prefix t [], append-nil t, both_ways)
  refused_ended (Some p) (is, k, at, within, possible) = rw is (by_text (position (bytes_eq (fold_text t)) folded_texts) refl)

-- the whole text is neither
stopped_refused : (t : List ℕ) → HasStopped t → IsRefused t
stopped_refused t stopped = grind (arith, common_steps, append-nil t)

module _ (t places : List ℕ) (s : Begun) (known : IsTracked t places s) (o : Option (List ℕ)) (follows : FollowsIrregular t o) where
  found : (stage : Stage) → (stage ≡ Start → ⊥) → IsFoundOf t (found_by stage (end_at stage (length t) known.ends)) → IsEnded t places (ending_after stage)
  found stage past is = grind (arith, common_steps, marked_end places (length t) known.ends stage past known.marked)

  by_end :
      (stage : Stage) → (stage ≡ Start → ⊥) → (v : Bool) → Decides t (cond v (Some (found_by stage (end_at stage (length t) known.ends))) None) →
      IsEnded t places (cond v (ending_after stage) (option_map_or irregular_ending o NoTag))
  by_end stage past v is = grind (arith, common_steps, found, refused_ended)

  by_stage :
      (next : Option Stage) → stage_after s ≡ next →
      IsEnded t places (option_map_or (λ stage. cond (may_end stage) (ending_after stage) (option_map_or irregular_ending o NoTag)) next (option_map_or irregular_ending o NoTag))
  unfolding outcome
  by_stage None next = refused_ended t places (subst (Decides t) (reads_ended known.part ∙ ap (found_after known.ends (length t) []) (sym (stage_is t places s known) ∙ next)) (decided t)) o follows
  by_stage (Some stage) next =
      grind (arith, common_steps, stage_is t places s known, by_end stage, after_not_start s.stage stage known.bytes, reads_ended known.part, decided t)

by_begun :
    (t places : List ℕ) (b : Option Begun) (o : Option (List ℕ)) → Tracks t places b → FollowsIrregular t o →
    IsEnded t places (ending_of (record { begun = b; irregular = o }))
by_begun t places None o stopped follows = refused_ended t places (stopped_refused t stopped) o follows
by_begun t places (Some s) o known follows = by_stage t places s known o follows (stage_after s) refl

pub ended : (t places : List ℕ) → Tracks t places (position_of t).begun → IsEnded t places (ending_of (position_of t))
ended t places tracks = by_begun t places _ _ tracks (follows_irregular t)

-- ---- where a text has been read to an index

pub next_prefix : (t : List ℕ) (i b : ℕ) → i < length t → b ≡ get_or t i 0 → take i t ++ b ∷ [] ≡ take (i + 1) t
next_prefix t i b within read = ap (λ x. take i t ++ x ∷ []) read ∙ sym (take_more t i 0 within)

-- one byte more
pub tracks_next :
    (t places : List ℕ) (i b place : ℕ) → i < length t → take i t ++ b ∷ [] ≡ take (i + 1) t → place ≡ part_before (position_of (take i t ++ b ∷ [])) →
    Tracks (take i t) places (position_of (take i t)).begun → Tracks (take (i + 1) t) (set places place i) (position_of (take (i + 1) t)).begun
tracks_next t places i b place within next is known =
    let pushed = tracks_push (take i t) places b (position_of (take i t)).begun known in
    let step = position_of-push (take i t) b in
    let long = length-take i t in
    grind (arith, common_steps)

-- the first byte, which ends no part
pub tracks_first : (t : List ℕ) (b : ℕ) → 0 < length t → b ∷ [] ≡ take 1 t → Tracks (take 1 t) (replicate 6 0) (position_of (take 1 t)).begun
tracks_first t b within next =
    let place = part_before (position_of (b ∷ [])) in
    let unchanged : set (replicate 6 0) place 0 ≡ replicate 6 0 =
    ap (set (replicate 6 0) place) (sym (get_or-replicate 6 place 0 0 (place_before_within (position_of (b ∷ [])).begun))) ∙ set-get_or (replicate 6 0) place 0 in
    subst (λ places. Tracks (take 1 t) places (position_of (take 1 t)).begun) unchanged (tracks_next t (replicate 6 0) 0 b place within next refl tracks_nothing)

-- after which no tag can follow
pub dead_next :
    (t places : List ℕ) (i b : ℕ) → i < length t → b ≡ get_or t i 0 → IsViable (take i t) → Tracks (take i t) places (position_of (take i t)).begun →
    is_dead (position_of (take i t ++ b ∷ [])) ≡ true → (IsTag t → ⊥) × IsViableLength t i × IsStop t (i + 1)
dead_next t places i b within read viable known dead =
    let next = next_prefix t i b within read in
    let tracks = tracks_next t places i b _ within next refl known in
    grind (arith, common_steps, dead_not_viable (take (i + 1) t) _ tracks, no_tag_dead t (i + 1), viable_up_to t i, stop_at t (i + 1), prefixes_viable t i)

-- up to its end
pub text_ended :
    (t places : List ℕ) (i : ℕ) (ending : Ending) → i ≡ length t → Tracks (take i t) places (position_of (take i t)).begun → ending ≡ ending_of (position_of (take i t)) →
    IsEnded t places ending
text_ended t places i ending at tracks is = grind (arith, common_steps, take_all i t, ended t places)

pub whole_stop : (t : List ℕ) (i : ℕ) → i ≡ length t → IsViable (take i t) → IsStop t i
whole_stop t i at viable = subst (IsStop t) (sym at) (stop_whole t (subst IsViable (take_all i t (omega (arith, at))) viable))
