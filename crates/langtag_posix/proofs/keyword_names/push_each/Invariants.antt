use Rattle.std.proofs.Common.{flat_map, length, take}
use Rattle.langtag_scan.specs.Prelude.{slice_split}
use Rattle.langtag_text.specs.Output.{Appends}
use Rattle.langtag_posix.specs.KeywordNames.{is_semicolon, keyword_text}
use Rattle.langtag_posix.proofs.keyword_names.push_each.Given as goal

-- the keywords so far were appended
abbrev pub invariant-loop-keyword : goal.invariant-loop-keyword
invariant-loop-keyword l = Appends (flat_map keyword_text (take (length l.yielded) (slice_split is_semicolon l.modifier))) l.fn.out l.out
