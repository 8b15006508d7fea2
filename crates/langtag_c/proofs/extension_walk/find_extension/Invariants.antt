use Rattle.langtag_keyword.proofs.Common.{◌≡◌, find, extension_texts}
use Rattle.langtag_extension.specs.Decided.{opens_alike}
use Rattle.langtag_extension.specs.Spelling.{IsExtensions}
use Rattle.langtag_scan.specs.Grammar.{after_first}
use Rattle.langtag_c.specs.Spans.{IsWithin, end_of, span_text}
use Rattle.langtag_c.proofs.extension_walk.find_extension.Given as goal

-- what was passed over are other extensions
abbrev pub invariant-loop-part : goal.invariant-loop-part
invariant-loop-part l = record {
  within : IsWithin l.bytes l.rest;
  extensions : IsExtensions (span_text l.bytes l.rest);
  ends : end_of l.rest ≡ end_of l.initial.rest;
  after : after_first (opens_alike l.singleton) (extension_texts (span_text l.bytes l.rest)) ≡ after_first (opens_alike l.singleton) (extension_texts (span_text l.bytes l.initial.rest));
  same : find (opens_alike l.singleton) (extension_texts (span_text l.bytes l.rest)) ≡ find (opens_alike l.singleton) (extension_texts (span_text l.bytes l.initial.rest));
}

abbrev pub decreases-loop-part : goal.decreases-loop-part
decreases-loop-part l = l.rest.len
