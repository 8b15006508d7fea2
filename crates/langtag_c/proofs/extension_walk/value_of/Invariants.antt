use Rattle.langtag_keyword.proofs.Common.{◌≡◌, opens_keyword, value_of}
use Rattle.langtag_c.specs.Keywords.{HasSubtags, after_key, subtags_in}
use Rattle.langtag_c.specs.Spans.{end_of}
use Rattle.langtag_c.proofs.extension_walk.value_of.Given as goal

-- what was passed over is no such key
abbrev pub invariant-loop-subtag : goal.invariant-loop-subtag
invariant-loop-subtag l = record {
  some : HasSubtags l.bytes l.rest;
  ends : end_of l.rest ≡ end_of l.initial.rest;
  after : after_key (opens_keyword l.keys) l.key (subtags_in l.bytes l.rest) ≡ after_key (opens_keyword l.keys) l.key (subtags_in l.bytes l.initial.rest);
  same : value_of (opens_keyword l.keys) l.key (subtags_in l.bytes l.rest) ≡ value_of (opens_keyword l.keys) l.key (subtags_in l.bytes l.initial.rest);
}

abbrev pub decreases-loop-subtag : goal.decreases-loop-subtag
decreases-loop-subtag l = l.rest.len
