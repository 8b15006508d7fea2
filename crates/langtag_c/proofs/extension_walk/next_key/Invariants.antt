use Rattle.langtag_keyword.proofs.Common.{◌≡◌, ◌≤◌, drop, take, opens_keyword, keywords_after, HasKeys}
use Rattle.langtag_c.specs.Keywords.{HasSubtags, keywords_from, subtags_in}
use Rattle.langtag_c.specs.Spans.{end_of}
use Rattle.langtag_c.proofs.extension_walk.next_key.Given as goal

-- the keys so far were met, and none of them after the first `passed` subtags is new
abbrev pub invariant-loop-key : goal.invariant-loop-key
invariant-loop-key l = record {
  some : HasSubtags l.bytes l.rest;
  ends : end_of l.rest ≡ end_of l.fn.subtags;
  left : subtags_in l.bytes l.rest ≡ drop l.count (subtags_in l.bytes l.fn.subtags);
  met : HasKeys l.met.seconds (take l.count (subtags_in l.bytes l.fn.subtags));
  same : l.passed ≤ l.count → keywords_after (opens_keyword l.keys) (take l.count (subtags_in l.bytes l.fn.subtags)) (subtags_in l.bytes l.rest) ≡ keywords_from (opens_keyword l.keys) (subtags_in l.bytes l.fn.subtags) l.initial.passed;
  kept : l.passed ≡ l.initial.passed;
}

abbrev pub decreases-loop-key : goal.decreases-loop-key
decreases-loop-key l = l.rest.len
