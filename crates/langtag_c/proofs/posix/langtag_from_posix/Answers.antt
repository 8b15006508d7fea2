use Rattle.langtag_c.proofs.WrittenTexts.{named_written}
use Rattle.langtag_c.proofs.posix.langtag_from_posix.Goals as goal

pub returns-in-Some-clause-no_tag : goal.returns-in-Some-clause-no_tag
returns-in-Some-clause-no_tag c =
    let (names, written) = c.in-Some.ensures.written in
    (λ zero _. named_written _ _ _ c.in-Some.len written names zero, λ none. absurd (none names))

pub returns-in-Some-clause-nothing : goal.returns-in-Some-clause-nothing
returns-in-Some-clause-nothing c =
    let (names, written) = c.in-Some.ensures.written in
    λ zero. absurd (named_written _ _ _ c.in-Some.len written names zero)
