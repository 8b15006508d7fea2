use Rattle.langtag_keyword.proofs.Common.{ℕ, List, [], ◌++◌, take, HasText, with_subtag}
use Rattle.std.proofs.Common.{MutBor}
use Rattle.langtag_text.specs.RecommendedCase.{capital_text}
use Rattle.langtag_locale.proofs.resolved_fields.push_uppercase.Given as goal

-- the bytes before this index stand after the hyphen
abbrev pub invariant-loop-byte : goal.invariant-loop-byte
invariant-loop-byte l = (first : MutBor (List ℕ)) (text : List ℕ) → HasText first l.fn.out text → HasText first l.out (with_subtag text [] ++ capital_text (take l.byte-index l.subtag))
