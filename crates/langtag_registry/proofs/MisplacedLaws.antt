-- The walk over the variants of a tag and what stands before each, and the walk over the prefixes of a variant.
use Rattle.langtag_scan.proofs.Prelude.{◌≡◌, ℕ, ◌+◌, ◌≤◌, true, false, cond, List, [], ◌∷◌, ◌++◌, length, take, None, Some, ap, sym, ◌∙◌, append_assoc, arith, ◌<◌, ◌==◌, Bool, get_or, map, drop, refl, flat_map, slice_range, list_any, length-map, get_or-map, replicate, zero, suc, at_drop_more, and_parts, common_steps, append-nil}
use Rattle.langtag_scan.specs.Grammar.{ends_of, Record, Spells, spell, one_flat, extension_flat, private_part_flat, join, segments, subtags, IsNormal, are_alike, folded_number, are_alphanumeric}
use Rattle.langtag_scan.proofs.Laws.{join-append, take-join, length-join-append, slice_split-append, folded_number-tells}
use Rattle.langtag_registry.specs.Prefix.{fits_after, up_to, misplaced, misplaced_after, some_matches}
use Rattle.langtag_range.specs.Extended.{match_subtags, stand_among, test_extended}
use Rattle.langtag_fields.specs.Entry.{Entry, values_for}
use Rattle.langtag_fields.specs.Subtags.{variant_prefixes}
use Rattle.langtag_fields.proofs.Values.{no_entry}

-- the subtags after the first up to some variants
abbrev others : Record → List (List ℕ) → List (List ℕ)
others r before = r.extended ++ (one_flat r.script ++ (one_flat r.region ++ before))

spell-up_to : (r : Record) (before : List (List ℕ)) → spell (up_to r before) ≡ join (r.primary ∷ others r before)
spell-up_to r before = ap (λ vs. join (r.primary ∷ others r vs)) (append-nil before)

-- and the variants after them with all that follows
abbrev rest_of : Record → List (List ℕ) → List (List ℕ)
rest_of r left = left ++ (flat_map extension_flat r.extensions ++ private_part_flat r.private_use)

spell-cut : (r : Record) (before left : List (List ℕ)) → r.variants ≡ before ++ left → spell r ≡ join (r.primary ∷ (others r before ++ rest_of r left))
spell-cut r before left cut = grind (arith, common_steps, append_assoc)

-- ---- the walk

-- some variants stand before the end, and all of them fit
pub record IsWalked (r : Record) (end : ℕ) (left : List (List ℕ)) : Type 0 where
  pub before : List (List ℕ)
  pub cut : r.variants ≡ before ++ left
  pub end_at : end ≡ length (spell (up_to r before))
  pub so_far : misplaced r ≡ misplaced_after r before left

pub walk_first : (r : Record) (end : ℕ) (left : List (List ℕ)) → end ≡ (ends_of r).region → left ≡ r.variants → IsWalked r end left
walk_first r end left at all = grind (arith, common_steps, append-nil, spell-up_to)

module _ (r : Record) (end : ℕ) (left : List (List ℕ)) (walked : IsWalked r end left) where
  pub text_here : take end (spell r) ≡ spell (up_to r walked.before)
  text_here = rw (walked.end_at, spell-up_to r walked.before, spell-cut r walked.before left walked.cut) (take-join r.primary (others r walked.before) (rest_of r left))

  pub end_within : end ≤ length (spell r)
  end_within = grind (arith, common_steps, length-join-append r.primary (others r walked.before) (rest_of r left), spell-up_to r walked.before, spell-cut r walked.before left walked.cut)

  pub walk_ended : left ≡ [] → None ≡ misplaced r
  walk_ended none = sym (walked.so_far ∙ ap (misplaced_after r walked.before) none)

  module _ (v : List ℕ) (rest : List (List ℕ)) (next : left ≡ v ∷ rest) where
    turn : misplaced r ≡ cond (fits_after (take end (spell r)) v) (misplaced_after r (walked.before ++ v ∷ []) rest) (Some v)
    turn = grind (arith, common_steps, text_here)

    pub walk_stopped : fits_after (take end (spell r)) v ≡ false → Some v ≡ misplaced r
    walk_stopped is = sym (turn ∙ ap (λ b. cond b (misplaced_after r (walked.before ++ v ∷ []) rest) (Some v)) is)

    pub walk_later : (text : List ℕ) → text ≡ v → fits_after (take end (spell r)) v ≡ true → IsWalked r (end + (1 + length text)) rest
    walk_later text same is = grind (arith, common_steps, turn, append_assoc walked.before (v ∷ []) rest, length-join-append, spell-up_to, append-nil)

    -- the text before the next variant
    pub text_later : (text : List ℕ) → text ≡ v → take (end + (1 + length text)) (spell r) ≡ take end (spell r) ++ 45 ∷ v
    text_later text same =
        let here = take-join r.primary (others r walked.before ++ v ∷ []) (rest_of r rest) in
        grind (
          arith,
          common_steps,
          text_here,
          here,
          spell-up_to r walked.before,
          spell-cut r walked.before left walked.cut,
          join-append r.primary (others r walked.before) (v ∷ []),
          append_assoc (others r walked.before) (v ∷ []) (rest_of r rest),
          append-nil,
        )

-- ---- what matches a text matches a longer one

stand_among-more : (wanted subtags more : List (List ℕ)) → stand_among wanted subtags ≡ true → stand_among wanted (subtags ++ more) ≡ true
stand_among-more [] subtags more stands = refl
stand_among-more (w ∷ ws) [] more stands = absurd cc
stand_among-more (w ∷ ws) (s ∷ ss) more stands = grind (arith, common_steps, stand_among-more ws ss more, stand_among-more (w ∷ ws) ss more)

match_subtags-more : (range subtags more : List (List ℕ)) → match_subtags range subtags ≡ true → match_subtags range (subtags ++ more) ≡ true
match_subtags-more range subtags more matches = grind (arith, common_steps, stand_among-more, others, and_parts)

pub test_extended-more : (prefix text rest : List ℕ) → test_extended prefix text ≡ true → test_extended prefix (text ++ 45 ∷ rest) ≡ true
test_extended-more prefix [] rest matches = match_subtags-more (subtags prefix) [] (subtags (45 ∷ rest)) matches
test_extended-more prefix (b ∷ text) rest matches =
    rw (slice_split-append (b ∷ text) rest) (match_subtags-more (subtags prefix) (segments (b ∷ text)) (segments rest) matches)

-- ---- the text

pub some_record : (text : List ℕ) → IsNormal text → (r : Record) × Spells r text
unfolding IsNormal
some_record text normal = normal

pub take_sliced : (whole text cut : List ℕ) (end : ℕ) → whole ≡ text → cut ≡ slice_range text 0 end → take end whole ≡ cut
take_sliced whole text cut end same is = grind (arith, common_steps)

pub unmarked : (n index : ℕ) → get_or (replicate n false) index false ≡ false
unmarked zero index = refl
unmarked (suc n) zero = refl
unmarked (suc n) (suc index) = unmarked n index

-- ---- two lists of which something is the same

module _ {A B C : Type 0} (f : A → C) (g : B → C) (xs : List A) (ys : List B) (same : map f xs ≡ map g ys) where
  pub length-same : length xs ≡ length ys
  length-same = sym (length-map xs f) ∙ ap length same ∙ length-map ys g

  pub same_at : (i : ℕ) (a : A) (b : B) (c : C) → i < length xs → f (get_or xs i a) ≡ g (get_or ys i b)
  same_at i a b c inside = grind (arith, common_steps, get_or-map f xs i a c inside, get_or-map g ys i b c, length-same)

-- a number is that of an entry's subtag where the texts are alike
pub number_tells :
    (entry : Entry) (variant : List ℕ) (number key : ℕ) (same : Bool) → are_alphanumeric entry.subtag ≡ true → are_alphanumeric variant ≡ true →
    number ≡ folded_number variant → key ≡ folded_number entry.subtag → (number == key) ≡ same → are_alike entry.subtag variant ≡ same
number_tells entry variant number key same good also at beside is = grind (arith, common_steps, folded_number-tells entry.subtag variant good also)

-- ---- what the entries that are left answer: whether one has a prefix that matches; and where there was none for the
-- variant, whether there is none

module _ (text variant : List ℕ) where
  abbrev pub fits_left : Bool → List Entry → Bool
  fits_left has_none [] = has_none
  fits_left has_none (e ∷ list) =
      cond (are_alike e.subtag variant) (cond (test_extended e.value text) true (fits_left false list)) (fits_left has_none list)

  fits_left-any : (list : List Entry) → fits_left false list ≡ list_any (λ prefix. test_extended prefix text) (values_for list variant)
  fits_left-any [] = refl
  fits_left-any (e ∷ list) = grind (arith, common_steps, fits_left-any list)

  fits_left-some : (list : List Entry) → fits_left true list ≡ some_matches (values_for list variant) text
  fits_left-some [] = refl
  fits_left-some (e ∷ list) = grind (arith, common_steps, fits_left-some list, fits_left-any list)

  -- the entries from an index on give the answer
  unfoldable pub IsLeft : Bool → ℕ → Type 0
  IsLeft has_none i = fits_after text variant ≡ fits_left has_none (drop i variant_prefixes)

  pub left_first : IsLeft true 0
  unfolding IsLeft fits_after
  left_first = sym (fits_left-some variant_prefixes)

  module _ (has_none : Bool) (i : ℕ) (left : IsLeft has_none i) (inside : i < length variant_prefixes) where
    pub left_matched :
        are_alike (get_or variant_prefixes i no_entry).subtag variant ≡ true → test_extended (get_or variant_prefixes i no_entry).value text ≡ true →
        true ≡ fits_after text variant
    unfolding IsLeft
    left_matched is also = grind (arith, common_steps, at_drop_more (fits_left has_none) variant_prefixes i no_entry)

    pub left_unmatched :
        are_alike (get_or variant_prefixes i no_entry).subtag variant ≡ true → test_extended (get_or variant_prefixes i no_entry).value text ≡ false →
        IsLeft false (i + 1)
    unfolding IsLeft
    left_unmatched is also = grind (arith, common_steps, at_drop_more (fits_left has_none) variant_prefixes i no_entry)

    pub left_other : are_alike (get_or variant_prefixes i no_entry).subtag variant ≡ false → IsLeft has_none (i + 1)
    unfolding IsLeft
    left_other is = grind (arith, common_steps, at_drop_more (fits_left has_none) variant_prefixes i no_entry)

  pub left_ended : (has_none : Bool) (i : ℕ) → IsLeft has_none i → length variant_prefixes ≤ i → has_none ≡ fits_after text variant
  unfolding IsLeft
  left_ended has_none i left ends = grind (arith, common_steps)
