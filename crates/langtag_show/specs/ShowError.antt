-- The message of a program for an error, and its exit status.
use Rattle.std.specs.Prelude.{ℕ, List, take, Option, Result, Ok, Err, codes}
use Rattle.std.specs.Io.KnownBytes.{Appends}
use Rattle.langtag_show.specs.Lines.{ended}
use Rattle.langtag_show.specs.declared.show_error.ShowError.{ShowError}
use Rattle.langtag_show.specs.declared.show_error.ShowError.TheVariants.{Memory, Read, Write}

-- the message on standard error
abbrev pub message_of : ShowError → List ℕ
message_of Memory = codes "out of memory"
message_of Read = codes "read failed"
message_of Write = codes "write failed"

-- the first bytes of the line with the message of an error were written to a writer, and nothing else. They are the
-- whole line, unless a write failed
abbrev pub WritesFrontOfMessage : Option (List ℕ) → Option (List ℕ) → ShowError → Type 0
WritesFrontOfMessage old new error = (k : ℕ) × Appends old new (take k (ended (message_of error)))

-- the exit status for an error
abbrev pub status_of : ShowError → ℕ
status_of Memory = 3
status_of Read = 4
status_of Write = 5

-- the exit status after a run: 0 if there was no error
abbrev pub status_after : Result (Unit {0}) ShowError → ℕ
status_after (Ok done) = 0
status_after (Err error) = status_of error
