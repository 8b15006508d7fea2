use Rattle.langtag_keyword.proofs.Common.{◌≡◌, ◌+◌, length_with_hyphens, opens_keyword, before_key}
use Rattle.langtag_c.specs.Keywords.{HasSubtags, subtags_in}
use Rattle.langtag_c.proofs.extension_walk.len_before_key.Given as goal

-- those that were passed are counted
abbrev pub invariant-loop-subtag : goal.invariant-loop-subtag
invariant-loop-subtag l = record {
  some : HasSubtags l.bytes l.rest;
  counted : l.len + length_with_hyphens (before_key (opens_keyword l.keys) (subtags_in l.bytes l.rest)) ≡ length_with_hyphens (before_key (opens_keyword l.keys) (subtags_in l.bytes l.initial.rest));
}

abbrev pub decreases-loop-subtag : goal.decreases-loop-subtag
decreases-loop-subtag l = l.rest.len
