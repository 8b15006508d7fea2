-- The report of an input: the answer to each of its lines.
use Rattle.std.specs.Prelude.{◌≡◌, ℕ, ◌≤◌, Option, List, [], ◌∷◌, ◌++◌, length, Result, OnOk, IfSome, IsErrOf}
use Rattle.std.specs.Io.KnownBytes.{Consumes, Appends, IsAtEnd}
use Rattle.langtag_show.specs.ShowAnswer.{IsShowAnswer}
use Rattle.langtag_show.specs.Lines.{NoLineFeed, ended, complete_lines, rest_of, lines_of}
use Rattle.langtag_show.specs.declared.run.TheConstants.{BUFFER_LEN}
use Rattle.langtag_show.specs.declared.show_error.ShowError.{ShowError}
use Rattle.langtag_show.specs.declared.show_error.ShowError.TheVariants.{Memory, Read}

-- the answers to lines, in order, each followed by LF
pub data AreAnswers : List (List ℕ) → List ℕ → Type 0 where
  none : AreAnswers [] []
  one_more : (line text : List ℕ) (lines : List (List ℕ)) (texts : List ℕ) → IsShowAnswer line text → AreAnswers lines texts
      → AreAnswers (line ∷ lines) (ended text ++ texts)

-- the answers to lines were written to a writer, and nothing else
abbrev pub AreWritten : Option (List ℕ) → Option (List ℕ) → List (List ℕ) → Type 0
AreWritten old new lines = (texts : List ℕ) × AreAnswers lines texts × Appends old new texts

-- a reader returned some bytes, and P holds for them
abbrev pub HavingRead : Option (List ℕ) → Option (List ℕ) → (List ℕ → Type 0) → Type 0
HavingRead old new P = (input : List ℕ) × Consumes old new input × P input

-- a run had `earlier`, read `last`, and stopped in it where the line being gathered may refuse bytes. The answers to all
-- lines before this line were written, and nothing else: to the complete lines of `earlier ++ taken`. The line held the
-- rest of these bytes, and `more` was to be added. A `Vec` may refuse to grow at any time
pub record HasStopped (Refuses : List ℕ → List ℕ → Type 0) (old new : Option (List ℕ)) (earlier last : List ℕ) : Type 0 where
  pub taken : List ℕ
  pub more : List ℕ
  pub after : List ℕ
  pub read : (taken ++ more) ++ after ≡ last
  pub free : NoLineFeed more
  pub refused : Refuses (rest_of (earlier ++ taken)) more
  pub written : AreWritten old new (complete_lines (earlier ++ taken))

-- it stopped in the bytes of the last read, of which a buffer holds at most `BUFFER_LEN`
abbrev pub HasStoppedIn : (List ℕ → List ℕ → Type 0) → Option (List ℕ) → Option (List ℕ) → List ℕ → Type 0
HasStoppedIn Refuses old new input =
    (earlier last : List ℕ) × (earlier ++ last ≡ input) × (length last ≤ BUFFER_LEN) × HasStopped Refuses old new earlier last

-- what a run has read and written, depending on its result; nothing is stated for the error Write. `unread` and `left`
-- are what was left to read before and after the run; `old` and `new` are what was written before and after the run
pub record HasRun (Refuses : List ℕ → List ℕ → Type 0) (result : Result (Unit {0}) ShowError) (unread left old new : Option (List ℕ)) : Type 0 where
  -- the run read the input to its end
  pub whole : OnOk result (IsAtEnd left)
  -- the run wrote the answers to all lines of the input
  pub report : OnOk result (IfSome unread (λ input. AreWritten old new (lines_of input)))
  -- a read failed: the run wrote the answers to the complete lines that were read
  pub after_read : IsErrOf result Read → HavingRead unread left (λ input. AreWritten old new (complete_lines input))
  -- the run stopped at a line, for want of memory: it wrote the answers to the lines before it
  pub after_memory : IsErrOf result Memory → HavingRead unread left (HasStoppedIn Refuses old new)
