-- The walk from piece to piece.
use Rattle.langtag_scan.proofs.Prelude.{◌≡◌, ◌≢◌, ℕ, ◌+◌, ◌-◌, ◌<◌, ◌≤◌, true, false, ◌⊎◌, inl, inr, List, [], ◌∷◌, ◌++◌, length, map, take, drop, set, get_or, refl, sym, ap, subst, ◌∙◌, arith, append-nil, append_assoc, length-append, common_steps, to_ascii_uppercase, at_drop_more, take_more, take-append-drop, take_all, drop_all, take-map, drop-map, get_or-take, take-append_seam, drop-append_seam, slice_split_none, slice_split_at, length-slice_split, join_with_byte-slice_split, length-take, length-drop, ne_eqb, eq-eqb, nat_tests}
use Prim.Native.Nat.{zero, suc}
use borrow.Rule.Slice.PartMut.{put_mid}
use Rattle.std.proofs.lemmas.List.Elements.{All-from_get_or}
use Rattle.langtag_scan.specs.Grammar.{fold_byte, fold_text, is_single, is_hyphen, IsHyphenFree, NoHyphenWithin, join, segments}
use Rattle.langtag_scan.proofs.CaseLaw.{join-fold}
use Rattle.langtag_text.specs.RecommendedCase.{capital_text, by_length, recommended_text}
use Rattle.langtag_text.specs.Walk.{BeginsWith, after_piece, cased, later, later_text}
use Rattle.langtag_text.proofs.RecommendedLaws.{after_first}

-- ---- capitals

-- none
cased-none : (s : List ℕ) → cased 0 s ≡ fold_text s
cased-none [] = refl
cased-none (b ∷ s) = ap (λ t. fold_byte b ∷ t) (cased-none s)

-- ---- a piece

-- what stands after a subtag: nothing, or a hyphen and others
abbrev IsRest : List ℕ → Type 0
IsRest rest = (rest ≡ []) ⊎ ((others : List ℕ) × (rest ≡ 45 ∷ others))

-- later subtags are as many
later-some : (ss : List (List ℕ)) → 0 < length ss → 0 < length (later ss)
later-some [] some = absurd (omega (arith, some))
later-some (s ∷ ss) some = grind (arith, common_steps)

-- a subtag and some others are joined by a hyphen
join-cons : (x : List ℕ) (ss : List (List ℕ)) → 0 < length ss → join (x ∷ ss) ≡ x ++ 45 ∷ join ss
join-cons x ss some = grind (arith, common_steps)

-- a text begins with a subtag
record Cut (s rest : List ℕ) : Type 0 where
  others : List (List ℕ)
  are : segments (s ++ rest) ≡ s ∷ others
  joined : (x : List ℕ) → join (x ∷ later others) ≡ x ++ after_piece rest

-- where none of its bytes is a hyphen and one stands after it
cut : (s rest : List ℕ) → IsHyphenFree s → IsRest rest → Cut s rest
cut s rest free (inl none) = record {
  others = [];
  are = ap (λ t. segments (s ++ t)) none ∙ ap segments (append-nil s) ∙ slice_split_none is_hyphen s free;
  joined = λ x. sym (ap (λ t. x ++ after_piece t) none ∙ append-nil x);
}
cut s rest free (inr (q, hyphen)) = record {
  others = segments q;
  are = ap (λ t. segments (s ++ t)) hyphen ∙ slice_split_at is_hyphen s 45 q free refl;
  joined = grind (arith, nat_tests, join-cons, later-some, length-slice_split is_hyphen);
}

-- all subtags of a text, small
fold-segments : (text : List ℕ) → join (map fold_text (segments text)) ≡ fold_text text
fold-segments text = join-fold (segments text) ∙ ap fold_text (join_with_byte-slice_split 45 text)

module _ (text : List ℕ) (end : ℕ) (within : end ≤ length text) (free : NoHyphenWithin text 0 end) (hyphen : end < length text → get_or text end 0 ≡ 45) where
  -- the first subtag
  abbrev s : List ℕ
  s = take end text

  -- its length
  size : length s ≡ end
  size = omega (arith, within, length-take end text)

  -- and what stands after it
  first : Cut s (drop end text)
  first = grind (arith, common_steps, cut s, All-from_get_or, size, get_or-take, length-drop, at_drop_more)

  -- the subtags of the text
  are : segments text ≡ s ∷ first.others
  are = ap segments (sym (take-append-drop end text)) ∙ first.are

  -- and so it is after a later one
  later-single : is_single s ≡ true → later_text text ≡ fold_text text
  later-single single = grind (arith, common_steps, are, fold-segments text)

  -- and a later one goes by its length
  later-many : is_single s ≡ false → later_text text ≡ by_length s ++ after_piece (drop end text)
  later-many many = grind (arith, common_steps, are, first)

  -- a subtag of a single byte begins a piece that goes to the end
  pub piece-single :
      end ≡ 1 → BeginsWith text (length text) 0 (later_text text) × BeginsWith text (length text) 0 (recommended_text text)
  piece-single one = grind (arith, common_steps, later-single, eq-eqb, size, cased-none, append-nil, take_all, drop_all, are, after_first, fold-segments)

  -- a subtag of another length is a piece
  piece-many :
      (n : ℕ) → end ≢ 1 → n ≤ end → by_length s ≡ cased n s →
      BeginsWith text end n (later_text text) × BeginsWith text end 0 (recommended_text text)
  piece-many n more order case = grind (arith, common_steps, ne_eqb (length s) 1, size, later-many, cased-none s, are, after_first)

  -- of two bytes
  pub piece-two : end ≡ 2 → BeginsWith text 2 2 (later_text text) × BeginsWith text 2 0 (recommended_text text)
  piece-two two = grind (arith, common_steps, piece-many 2, size)

  -- of four bytes
  pub piece-four : end ≡ 4 → BeginsWith text 4 1 (later_text text) × BeginsWith text 4 0 (recommended_text text)
  piece-four four = grind (arith, common_steps, piece-many 1, size, cased-none)

  -- of others
  pub piece-other : end ≢ 1 → end ≢ 2 → end ≢ 4 → BeginsWith text end 0 (later_text text) × BeginsWith text end 0 (recommended_text text)
  piece-other many other longer = grind (arith, common_steps, piece-many 0 many, ne_eqb (length s) 2, size, ne_eqb (length s) 4, cased-none s)

-- ---- in place

-- what stands before or after an index of a small text is small
small-take : (n : ℕ) (text : List ℕ) → fold_text text ≡ text → fold_text (take n text) ≡ take n text
small-take n text small = sym (take-map fold_byte n text) ∙ ap (take n) small

small-drop : (n : ℕ) (text : List ℕ) → fold_text text ≡ text → fold_text (drop n text) ≡ drop n text
small-drop n text small = sym (drop-map fold_byte n text) ∙ ap (drop n) small

-- capitals change no length
length-cased : (n : ℕ) (s : List ℕ) → length (cased n s) ≡ length s
length-cased n [] = refl
length-cased n (b ∷ s) = ap suc (length-cased (n - 1) s)

-- the capitals of a small text are put
pub capitals-put : (n : ℕ) (s : List ℕ) → n ≤ length s → fold_text s ≡ s → capital_text (take n s) ++ drop n s ≡ cased n s
capitals-put zero s within small = sym small ∙ sym (cased-none s)
capitals-put (suc n) [] within small = absurd (omega arith)
capitals-put (suc n) (b ∷ s) within small = grind (arith, common_steps, ne_eqb (suc n) 0, capitals-put n s)

-- and one alone
pub capital-put : (s : List ℕ) → 1 ≤ length s → fold_text s ≡ s → set s 0 (to_ascii_uppercase (get_or s 0 0)) ≡ cased 1 s
capital-put s within small = grind (arith, common_steps, capitals-put 1)

-- what is known at the end of a piece
pub record IsAtEnd (old text : List ℕ) (end : ℕ) : Type 0 where
  pub as_long : length text ≡ length old
  pub within : end ≤ length text
  pub small : fold_text (drop end text) ≡ drop end text
  pub same : take end text ++ after_piece (drop end text) ≡ recommended_text old

-- at the end of the first one
pub first-end : (text : List ℕ) (len : ℕ) → fold_text text ≡ text → BeginsWith text len 0 (recommended_text text) → IsAtEnd text text len
first-end text len small begins = grind (arith, common_steps, small-drop len text small, cased-none (take len text), small-take len text small)

-- a piece that is not the first
abbrev BeginsLater : ℕ → ℕ → List ℕ → Type 0
BeginsLater len n text = BeginsWith text len n (later_text text)

module _ (old text : List ℕ) (end len n : ℕ) (at : IsAtEnd old text end) (longer : end < length text)
    (given : BeginsLater len n (take (length text - (end + 1)) (drop (end + 1) text))) where
  -- what stands after the hyphen, and the piece there
  abbrev rest : List ℕ
  rest = drop (end + 1) text

  abbrev piece : List ℕ
  piece = take len rest

  begins : BeginsLater len n rest
  begins = subst (BeginsLater len n) (take_all (length text - (end + 1)) rest (omega (arith, length-drop (end + 1) text))) given

  width : end + 1 + len - (end + 1) ≡ len
  width = omega arith

  -- the text with the capitals of the piece put
  abbrev changed : List ℕ
  changed = put_mid (end + 1) len text (cased n piece)

  -- which is in its recommended case up to the end of the piece
  abbrev done : List ℕ
  done = take (end + 1) text ++ cased n piece

  here : drop end text ≡ get_or text end 0 ∷ rest
  here = at_drop_more (λ ys. ys) text end 0 longer

  small-rest : fold_text rest ≡ rest
  small-rest = grind (arith, common_steps, here)

  len-piece : length piece ≡ len
  len-piece = omega (arith, begins.within, length-take len rest)

  split : changed ≡ done ++ drop len rest
  split = sym (append_assoc (take (end + 1) text) (cased n piece) (drop len rest))

  done-size : length done ≡ end + 1 + len
  done-size = omega (arith, length-append (take (end + 1) text) (cased n piece), length-take (end + 1) text, length-cased n piece, len-piece)

  after : drop (end + 1 + len) changed ≡ drop len rest
  after = ap (drop (end + 1 + len)) split ∙ ap (λ k. drop k (done ++ drop len rest)) (sym done-size) ∙ drop-append_seam done (drop len rest)

  joined : done ++ after_piece (drop len rest) ≡ recommended_text old
  joined = grind (arith, common_steps, append_assoc, begins, take_more, here)

  -- the piece is small, and as long as its capitals
  pub piece-small :
      let k = end + 1 + len - (end + 1) in
      (fold_text (take k rest) ≡ take k rest) × (n ≤ length (take k rest))
  piece-small = grind (arith, common_steps, width, small-take len rest small-rest, small-rest, len-piece)

  -- once they are put, the same is known at the end of the piece
  pub next-end :
      let k = end + 1 + len - (end + 1) in
      IsAtEnd old (put_mid (end + 1) k text (cased n (take k rest))) (end + 1 + len)
  next-end = grind (arith, common_steps, width, length-drop, begins, after, small-drop, small-rest, split, done-size, take-append_seam, joined, length-append)

-- and at the end of the text it is in its recommended case
pub last-end : (old text : List ℕ) (end : ℕ) → IsAtEnd old text end → length text ≤ end → text ≡ recommended_text old
last-end old text end at whole = grind (arith, common_steps, drop_all end text whole, append-nil (take end text), take_all end text whole)

-- a piece more, and the last one
pub ruleset piece_steps = (piece-small, next-end, last-end)
