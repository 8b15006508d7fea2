use Rattle.std.proofs.lemmas.List.Splits.{join_with_byte-slice_split}
use Rattle.langtag_scan.proofs.SubtagLists.{segments-hyphen_free}
use Rattle.langtag_scan.proofs.subtags.Subtags.new.Goals as goal

pub returns-clause-joined : goal.returns-clause-joined
returns-clause-joined c = join_with_byte-slice_split 45 c.args.text.now

pub returns-clause-hyphen_free : goal.returns-clause-hyphen_free
returns-clause-hyphen_free c = segments-hyphen_free c.args.text.now
