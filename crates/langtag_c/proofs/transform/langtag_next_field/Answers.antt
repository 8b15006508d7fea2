use Rattle.langtag_keyword.specs.Transform.{is_field_key}
use Rattle.langtag_c.proofs.FoundExtension.{are-after, some-left}
use Rattle.langtag_c.proofs.transform.langtag_next_field.Goals as goal

pub returns-clause-taken : goal.returns-clause-taken
returns-clause-taken c some r spells = rw (← c.extension_subtags-subtags.ensures.subtags.part r spells) c.in-Some.ensures.some

pub returns-clause-place : goal.returns-clause-place
returns-clause-place c ok r spells =
    let subtags = c.extension_subtags-subtags in
    are-after is_field_key 116 c.next_key.new.passed c.args.bytes.now subtags.result c.in-Some.place.key c.in-Some.place.value r spells subtags.ensures.end
    (some-left is_field_key c.args.passed.now _ _ _ c.in-Some.ensures.some) (subtags.ensures.subtags.part r spells) c.in-Some.ensures.place
