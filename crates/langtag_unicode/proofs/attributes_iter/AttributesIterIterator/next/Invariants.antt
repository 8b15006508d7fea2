use Rattle.std.proofs.Common.{◌≡◌, length}
use Rattle.langtag_unicode.specs.Text.{attributes_left}
use Rattle.langtag_unicode.proofs.attributes_iter.AttributesIterIterator.next.Given as goal

-- no attribute so far was a new one
abbrev pub invariant-loop-attribute : goal.invariant-loop-attribute
invariant-loop-attribute l = attributes_left l.self ≡ attributes_left l.fn.self

abbrev pub decreases-loop-attribute : goal.decreases-loop-attribute
decreases-loop-attribute l = length l.self.rest
