use Rattle.langtag_keyword.proofs.Common.{◌≡◌, ◌+◌, join, length, subst}
use Rattle.langtag_c.specs.Keywords.{after_key}
use Rattle.langtag_c.specs.Spans.{end_of}
use Rattle.langtag_keyword.specs.Keywords.{is_key, subtags_of}
use Rattle.langtag_c.proofs.FoundExtension.{begins-with, some-valued}
use Rattle.langtag_c.proofs.keyword.langtag_keyword.Goals as goal

pub returns-clause-place : goal.returns-clause-place
returns-clause-place c ok r spells =
    let subtags = c.extension_subtags-subtags in
    let is = subtags.ensures.subtags.part r spells in
    begins-with 117 c.args.bytes.now subtags.result c.in-Some.found (after_key is_key c.args.key.now (subtags_of 117 r)) r spells subtags.ensures.end (some-valued is_key c.args.key.now _ _ c.in-Some.ensures.value)
    (subst (λ ss. c.in-Some.found.start + length (join (after_key is_key c.args.key.now ss)) ≡ end_of subtags.result) is c.in-Some.ensures.place)
