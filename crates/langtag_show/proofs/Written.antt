-- Lines of bytes, and how the answers that a writer holds grow as bytes are taken.
use Rattle.std.proofs.Common.{◌≡◌, ◌∙◌, ℕ, ◌+◌, Bool, true, false, eqb-true, None, Some, List, [], ◌∷◌, ◌++◌, take, drop, get_or, refl, sym, ap, append_assoc, length-append, take-append-drop, get_or-take, arith, Result, Err, ◌-◌, Option, ◌<◌, ◌≤◌, length, length-drop, append-nil, subst, ◌≢◌}
use Rattle.std.specs.List.{flat_map, AllByRecursion, position}
use Rattle.std.proofs.lemmas.Grind.{common_steps}
use Rattle.std.proofs.lemmas.List.{take_at, get_or_at, take_more, take-append-le}
use Rattle.std.proofs.lemmas.List.Elements.{All-nil, All-cons, All-append}
use Rattle.std.proofs.lemmas.List.Quantifiers.{position-Some}
use Rattle.std.proofs.lemmas.List.Sums.{fails_before_first}
use Rattle.std.proofs.lemmas.List.Splits.{slice_split_none, slice_split_at}
use Rattle.std.proofs.lemmas.Bool.Decides.{nat_tests}
use Rattle.langtag_show.specs.Lines.{IsCutInto, is_line_feed, ended, pieces, complete_lines, rest_of, NoLineFeed, last_line, lines_of}
use Rattle.langtag_show.specs.Report.{AreAnswers, none, one_more, AreWritten, HasRun, HasStopped, HasStoppedIn, HavingRead}
use Rattle.langtag_show.specs.ShowAnswer.{IsShowAnswer}
use Rattle.langtag_show.specs.ShowLaws.{one_show_answer}
use Rattle.std.specs.Prelude.{OnOk, IfSome, IsErrOf, IsOkUnless}
use Rattle.std.specs.Result.{is_ok}
use Rattle.std.specs.Io.KnownBytes.{Appends, IsAtEnd, Keeps, append_known}
use Rattle.std.proofs.KnownBytes.{Appends-nil, Appends-trans, Appends-kept}
use Rattle.std.proofs.Math.Seq.{take-add, take-append-add, take-length}
use Rattle.langtag_show.specs.declared.show_error.ShowError.{ShowError}
use Rattle.langtag_show.specs.declared.show_error.ShowError.TheVariants.{Memory, Read, Write}

-- ---- the lines and the rest of an input

pub record Holds (input : List ℕ) (all : List (List ℕ)) (left : List ℕ) : Type 0 where
  pub lines : complete_lines input ≡ all
  pub rest : rest_of input ≡ left

by_pieces : (input : List ℕ) (lines : List (List ℕ)) (rest : List ℕ) → pieces input ≡ lines ++ rest ∷ [] → Holds input lines rest
unfolding complete_lines rest_of
by_pieces input lines rest are = record {
  lines = rw are (take_at lines (rest ∷ []) _ (omega (arith, length-append lines (rest ∷ []))));
  rest = rw are (get_or_at lines rest [] [] _ (omega (arith, length-append lines (rest ∷ []))));
}

-- the pieces of what follows lines come after the lines
pieces-joined : (lines : List (List ℕ)) (more : List ℕ) → AllByRecursion NoLineFeed lines → pieces (flat_map ended lines ++ more) ≡ lines ++ pieces more
pieces-joined [] more free = refl
pieces-joined (l ∷ ls) more (free, others) = grind (arith, nat_tests, append_assoc, slice_split_at is_line_feed l 10, pieces-joined ls more others)

pieces_of : (input : List ℕ) (lines : List (List ℕ)) (rest : List ℕ) → IsCutInto input lines rest → pieces input ≡ lines ++ rest ∷ []
pieces_of input lines rest cut = grind (arith, pieces-joined lines rest cut.lines_free, slice_split_none is_line_feed rest cut.rest_free)

cut_of_cons : (b : ℕ) (bs : List ℕ) (t : Bool) → is_line_feed b ≡ t → ((lines : List (List ℕ)) × (rest : List ℕ) × IsCutInto bs lines rest)
    → (lines : List (List ℕ)) × (rest : List ℕ) × IsCutInto (b ∷ bs) lines rest
cut_of_cons b bs true feed (lines, rest, cut) = ([] ∷ lines, rest, grind (arith, nat_tests, eqb-true b 10 feed, All-nil))
cut_of_cons b bs false plain ([], rest, cut) = ([], b ∷ rest, grind (arith, nat_tests, All-cons))
cut_of_cons b bs false plain (l ∷ ls, rest, cut) = ((b ∷ l) ∷ ls, rest, grind (arith, nat_tests, All-cons))

cut_of : (input : List ℕ) → (lines : List (List ℕ)) × (rest : List ℕ) × IsCutInto input lines rest
cut_of [] = ([], [], record { joined = refl; lines_free = tt; rest_free = All-nil (λ x. is_line_feed x ≡ false) })
cut_of (b ∷ bs) = cut_of_cons b bs (is_line_feed b) refl (cut_of bs)

-- ---- the laws

-- the complete lines and the rest are a cut of the input
pub lines_cut : (input : List ℕ) → IsCutInto input (complete_lines input) (rest_of input)
lines_cut input =
    let (lines, rest, cut) = cut_of input in
    let are = by_pieces input lines rest (pieces_of input lines rest cut) in
    rw (are.lines, are.rest) cut

-- two cuts of an input are equal
pub one_cut :
    (input : List ℕ) (lines others : List (List ℕ)) (rest other : List ℕ) → IsCutInto input lines rest →
    IsCutInto input others other → (lines ≡ others) × (rest ≡ other)
one_cut input lines others rest other cut also =
    grind (arith, nat_tests, by_pieces input lines rest, pieces_of input lines rest cut, by_pieces input others other, pieces_of input others other also)

-- bytes after an input complete the lines that they complete after its rest
pub more_lines :
    (input rest more : List ℕ) → rest ≡ rest_of input →
    Holds (input ++ more) (complete_lines input ++ complete_lines (rest ++ more)) (rest_of (rest ++ more))
more_lines input rest more is =
    let cut = lines_cut input in
    let whole = pieces_of (rest ++ more) _ _ (lines_cut (rest ++ more)) in
    by_pieces _ _ _ (grind (arith, append_assoc, whole, pieces-joined (complete_lines input) (rest ++ more)))

-- a text without LF is a rest
pub free_lines : (text : List ℕ) → NoLineFeed text → Holds text [] text
free_lines text free = by_pieces text [] text (slice_split_none is_line_feed text free)

-- such a text and LF is a line
pub ended_lines : (text : List ℕ) → NoLineFeed text → Holds (ended text) (text ∷ []) []
ended_lines text free = by_pieces (ended text) (text ∷ []) [] (slice_split_at is_line_feed text 10 [] free refl)

-- what stands before the first LF has none, and is a line with it
pub record IsFirstLine (bytes : List ℕ) (len : ℕ) : Type 0 where
  pub free : NoLineFeed (take len bytes)
  pub joined : ended (take len bytes) ++ drop (len + 1) bytes ≡ bytes

pub first_line : (bytes : List ℕ) (len : ℕ) → position is_line_feed bytes ≡ Some len → IsFirstLine bytes len
first_line bytes len at =
    let (within, feed, others) = position-Some is_line_feed bytes len 0 at in
    record {
      free = λ k d lt. grind (arith, common_steps, position-Some is_line_feed bytes len d at, get_or-take len bytes k d);
      joined = grind (arith, nat_tests, eqb-true (get_or bytes len 0) 10 feed, take_more bytes len 0 within, take-append-drop (len + 1) bytes, append_assoc);
    }

-- bytes without one are no line
pub no_line : (bytes : List ℕ) → position is_line_feed bytes ≡ None → NoLineFeed bytes
no_line bytes absent = grind (arith, nat_tests, fails_before_first is_line_feed bytes)

pub one_report : (lines : List (List ℕ)) (texts others : List ℕ) → AreAnswers lines texts → AreAnswers lines others → texts ≡ others
one_report _ _ _ none none = refl
one_report _ _ _ (one_more line text lines texts is are) (one_more _ other _ others also all) =
    let same : text ≡ other = one_show_answer line text other is also in
    ap (λ t. ended t ++ texts) same ∙ ap (λ t. ended other ++ t) (one_report lines texts others are all)

pub OnOk-by : {T E : Type 0} (P : Type 0) (r : Result T E) → (is_ok r ≡ true → P) → OnOk r P
OnOk-by P r holds = grind (arith, common_steps, nat_tests)

-- ---- bytes that wait on a page

-- the bytes before an empty page
append_known-empty : (a : Option (List ℕ)) (page : List ℕ) → page ≡ [] → append_known a page ≡ a
append_known-empty a page empty = grind (arith, common_steps, nat_tests, append-nil)

-- ---- the line in hand, as bytes come

pub free_rest : (input rest : List ℕ) → rest ≡ rest_of input → NoLineFeed rest
free_rest input rest is = subst NoLineFeed (sym is) (lines_cut input).rest_free

pub last_line-none : (rest : List ℕ) → length rest ≡ 0 → last_line rest ≡ []
last_line-none rest empty = grind (arith, common_steps, nat_tests)

pub last_line-some : (rest : List ℕ) → 0 < length rest → last_line rest ≡ rest ∷ []
last_line-some rest full = grind (arith, common_steps, nat_tests)

-- `rest` is in hand, and `end` ends it
pub ends_line :
    (line taken end rest : List ℕ) → rest ≡ rest_of (line ++ taken) → NoLineFeed end →
    Holds (line ++ (taken ++ ended end)) (complete_lines (line ++ taken) ++ (rest ++ end) ∷ []) []
ends_line line taken end rest is free =
    let whole = ended_lines (rest ++ end) (All-append (λ x. is_line_feed x ≡ false) rest end (free_rest (line ++ taken) rest is) free) in
    grind (arith, append_assoc, more_lines (line ++ taken) rest (ended end) is, whole)

-- and `more` does not
pub leaves_line :
    (line taken more bytes rest : List ℕ) → taken ++ more ≡ bytes → rest ≡ rest_of (line ++ taken) → NoLineFeed more →
    Holds (line ++ bytes) (complete_lines (line ++ taken)) (rest ++ more)
leaves_line line taken more bytes rest are is free =
    let whole = free_lines (rest ++ more) (All-append (λ x. is_line_feed x ≡ false) rest more (free_rest (line ++ taken) rest is) free) in
    grind (arith, append_assoc, append-nil, more_lines (line ++ taken) rest more is, whole)

-- ---- answers

AreAnswers-append : (xs ys : List (List ℕ)) (a b : List ℕ) → AreAnswers xs a → AreAnswers ys b → AreAnswers (xs ++ ys) (a ++ b)
AreAnswers-append _ ys _ b none q = q
AreAnswers-append _ ys _ b (one_more line text lines texts is p) q =
    subst (AreAnswers (line ∷ (lines ++ ys))) (sym (append_assoc (ended text) texts b)) (one_more line text (lines ++ ys) (texts ++ b) is (AreAnswers-append lines ys texts b p q))

pub Answers-nil : (a : Option (List ℕ)) → AreWritten a a []
Answers-nil a = ([], none, Appends-nil a)

pub Answers-one : (a b : Option (List ℕ)) (line text : List ℕ) → IsShowAnswer line text → Appends a b (ended text) → AreWritten a b (line ∷ [])
Answers-one a b line text is p = (ended text ++ [], one_more line text [] [] is none, subst (Appends a b) (sym (append-nil (ended text))) p)

-- an empty page holds no answer
pub Answers-empty : (a : Option (List ℕ)) (page : List ℕ) → page ≡ [] → AreWritten a (append_known a page) []
Answers-empty a page empty = subst (λ b. AreWritten a b []) (sym (append_known-empty a page empty)) (Answers-nil a)

-- and takes nothing from those that come on it
pub Answers-from_empty :
    (a b : Option (List ℕ)) (page : List ℕ) (xs : List (List ℕ)) → page ≡ [] → AreWritten (append_known a page) b xs → AreWritten a b xs
Answers-from_empty a b page xs empty = subst (λ x. AreWritten x b xs) (append_known-empty a page empty)

-- the answers on a page stand where it is written out
pub Answers-written :
    (a b c : Option (List ℕ)) (page : List ℕ) (xs : List (List ℕ)) → AreWritten a (append_known b page) xs → Appends b c page →
    AreWritten a c xs
Answers-written a b c page xs (s, p, q) gained = grind (arith, common_steps, nat_tests)

pub Answers-trans : (a b c : Option (List ℕ)) (xs ys : List (List ℕ)) → AreWritten a b xs → AreWritten b c ys → AreWritten a c (xs ++ ys)
Answers-trans a b c xs ys (s, p, q) (t, p', q') = (s ++ t, AreAnswers-append xs ys s t p p', Appends-trans a b c s t q q')

pub Answers-kept : (a b c : Option (List ℕ)) (xs : List (List ℕ)) → AreWritten a b xs → Keeps b c → AreWritten a c xs
Answers-kept a b c xs (s, p, q) kept = (s, p, Appends-kept a b c s q kept)

pub Answers-same : (a b : Option (List ℕ)) (xs ys : List (List ℕ)) → xs ≡ ys → AreWritten a b xs → AreWritten a b ys
Answers-same a b xs ys same p = subst (AreWritten a b) same p

-- a writer that holds the same holds the same answers
pub Answers-held : (a b c : Option (List ℕ)) (xs : List (List ℕ)) → b ≡ c → AreWritten a c xs → AreWritten a b xs
Answers-held a b c xs same = subst (λ held. AreWritten a held xs) (sym same)

-- the answers to what stood, and then to what more bytes complete
pub written_more :
    (a b c : Option (List ℕ)) (input rest more : List ℕ) → rest ≡ rest_of input → AreWritten a b (complete_lines input) →
    AreWritten b c (complete_lines (rest ++ more))
    → AreWritten a c (complete_lines (input ++ more))
written_more a b c input rest more is p q = rw (more_lines input rest more is).lines (Answers-trans a b c _ _ p q)

-- where a run stopped in what came after a line in hand, it stopped in what came after the whole input
pub stopped_more :
    (Refuses : List ℕ → List ℕ → Type 0) (a b c : Option (List ℕ)) (input rest more : List ℕ) → rest ≡ rest_of input → AreWritten a b (complete_lines input) →
    HasStopped Refuses b c rest more → HasStopped Refuses a c input more
stopped_more Refuses a b c input rest more is p s =
    let refused = rw (← (more_lines input rest s.taken is).rest) at s.refused in
    let written = written_more a b c input rest s.taken is p s.written in
    record { taken = s.taken; more = s.more; after = s.after; read = s.read; free = s.free; refused = refused; written = written }

-- the answers to the complete lines, and then to the last one
pub written_all :
    (a b c : Option (List ℕ)) (input rest : List ℕ) → rest ≡ rest_of input → AreWritten a b (complete_lines input) →
    AreWritten b c (last_line rest) → AreWritten a c (lines_of input)
written_all a b c input rest is p q = Answers-same a c _ _ (ap (λ r. complete_lines input ++ last_line r) is) (Answers-trans a b c _ _ p q)

-- ---- a run, by what ends it

module _ (Refuses : List ℕ → List ℕ → Type 0) (unread left old new : Option (List ℕ)) where
  -- the end of the input
  pub run_ended :
      (result : Result (Unit {0}) ShowError) → IsAtEnd left → OnOk result (IfSome unread (λ input. AreWritten old new (lines_of input))) →
      IsOkUnless result Write → HasRun Refuses result unread left old new
  run_ended result end report err = grind (arith, common_steps, nat_tests)

  -- an error before it, but for a failed read
  pub run_stopped :
      (result : Result (Unit {0}) ShowError) (e : ShowError) → result ≡ Err e → e ≢ Read →
      (IsErrOf result Memory → HavingRead unread left (HasStoppedIn Refuses old new)) → HasRun Refuses result unread left old new
  run_stopped result e is other memory = grind (arith, nat_tests)

-- ---- a message, of which a writer may take only the first bytes

-- one more write, of the bytes from n on
pub Appends-more :
    (a b c : Option (List ℕ)) (text : List ℕ) (n m : ℕ) → Appends a b (take n text) → Appends b c (take m (take (length text - n) (drop n text))) →
    Appends a c (take (n + m) text)
Appends-more a b c text n m first second = grind (arith, common_steps, nat_tests, length-drop, take-length, take-add, Appends-trans)

-- some bytes of a line, without its LF
pub front_of_line : (a b : Option (List ℕ)) (text : List ℕ) (k : ℕ) → k ≤ length text → Appends a b (take k text) → Appends a b (take k (ended text))
front_of_line a b text k within wrote = rw (take-append-le k text (10 ∷ []) within) wrote

-- all bytes of a line, and its LF if there is room
pub line_with_front_of_end :
    (a b c : Option (List ℕ)) (text : List ℕ) (k : ℕ) → Appends a b text → Appends b c (take k (10 ∷ [])) →
    Appends a c (take (length text + k) (ended text))
line_with_front_of_end a b c text k whole front = rw (take-append-add text (10 ∷ []) k) (Appends-trans a b c _ _ whole front)
