use Rattle.std.proofs.Common.{IsOk, subst}
use Rattle.std.proofs.lemmas.Bool.{false≢true}
use Rattle.langtag_scan.proofs.Ascii.{IsUtf8-tag}
use Rattle.langtag.proofs.written.tag_of.Goals as goal

pub unreachable-requires : goal.unreachable-requires
unreachable-requires c = false≢true (subst IsOk c.in_default.is (c.from_utf8.ensures.succeeds (IsUtf8-tag _ c.requires)))
