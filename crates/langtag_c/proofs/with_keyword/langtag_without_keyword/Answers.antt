use Rattle.std.proofs.Common.{arith, [], None}
use Rattle.std.proofs.lemmas.Bool.Decides.{nat_tests}
use Rattle.langtag_scan.proofs.TagLaws.{tag_normal}
use Rattle.langtag_c.proofs.WrittenTexts.{IsUtf8-keyword_key, some_written}
use Rattle.langtag_c.proofs.with_keyword.langtag_without_keyword.Goals as goal

pub returns-in_default : goal.returns-in_default
returns-in_default c = grind (arith, nat_tests, IsUtf8-keyword_key c.args.key.now [])

pub returns-in_default-tag_of : goal.returns-in_default-tag_of
returns-in_default-tag_of c = grind (arith, nat_tests, tag_normal c.args.tag.now)

pub returns-in-Ok-write_without_keyword-clause-refused : goal.returns-in-Ok-write_without_keyword-clause-refused
returns-in-Ok-write_without_keyword-clause-refused c =
    grind (arith, some_written c.args.key.now None c.args.tag.now c.args.buffer.now c.write_without_keyword.new.buffer c.in-Ok-write_without_keyword.len)
