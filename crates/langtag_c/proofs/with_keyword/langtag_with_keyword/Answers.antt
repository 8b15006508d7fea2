use Rattle.std.proofs.Common.{arith, Some}
use Rattle.std.proofs.lemmas.Bool.Decides.{nat_tests}
use Rattle.langtag_scan.specs.Grammar.{subtags}
use Rattle.langtag_scan.proofs.TagLaws.{tag_normal}
use Rattle.langtag_c.proofs.WrittenTexts.{IsUtf8-keyword_key, IsUtf8-keyword_value, some_written}
use Rattle.langtag_c.proofs.with_keyword.langtag_with_keyword.Goals as goal

pub returns-in_default : goal.returns-in_default
returns-in_default c = grind (arith, nat_tests, IsUtf8-keyword_key c.args.key.now (subtags c.args.value.now))

pub returns-in_default-from_utf8 : goal.returns-in_default-from_utf8
returns-in_default-from_utf8 c = grind (arith, nat_tests, IsUtf8-keyword_value c.args.key.now c.args.value.now)

pub returns-in_default-tag_of : goal.returns-in_default-tag_of
returns-in_default-tag_of c = grind (arith, nat_tests, tag_normal c.args.tag.now)

pub returns-in-Ok-write_with_keyword-clause-refused : goal.returns-in-Ok-write_with_keyword-clause-refused
returns-in-Ok-write_with_keyword-clause-refused c =
    grind (arith, some_written c.args.key.now (Some (subtags c.args.value.now)) c.args.tag.now c.args.buffer.now c.write_with_keyword.new.buffer c.in-Ok-write_with_keyword.len)
