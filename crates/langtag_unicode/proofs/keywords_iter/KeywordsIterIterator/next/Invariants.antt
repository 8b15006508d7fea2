use Rattle.langtag_keyword.proofs.Common.{◌≡◌, length, segments_left}
use Rattle.langtag_unicode.specs.Text.{keywords_left}
use Rattle.langtag_unicode.proofs.keywords_iter.KeywordsIterIterator.next.Given as goal

-- no subtag so far was a new key
abbrev pub invariant-loop-self : goal.invariant-loop-self
invariant-loop-self l = keywords_left l.self ≡ keywords_left l.fn.self

abbrev pub decreases-loop-self : goal.decreases-loop-self
decreases-loop-self l = length (segments_left l.self.rest)
