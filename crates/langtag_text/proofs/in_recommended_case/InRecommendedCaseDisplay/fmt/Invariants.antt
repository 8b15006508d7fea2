use Rattle.std.proofs.Common.{◌≡◌, ℕ, List, ◌++◌, IsAscii}
use Rattle.std.specs.Fmt.{HasWritten, IsPlainFormatter}
use Rattle.langtag_text.specs.Text.{in_recommended_case_text}
use Rattle.langtag_text.proofs.in_recommended_case.InRecommendedCaseDisplay.fmt.Given as goal

-- what has been written, and then what is still to come, is the text in its recommended case
abbrev pub invariant-loop-byte : goal.invariant-loop-byte
invariant-loop-byte g l =
    IsAscii (l.byte-iterator) ×
    (IsPlainFormatter l.initial.f
    → (done : List ℕ) × HasWritten g.W.Write.write_str_gives l.initial.f done l.f × (done ++ l.byte-iterator ≡ in_recommended_case_text l.fn.self))
