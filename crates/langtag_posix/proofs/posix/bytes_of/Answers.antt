use Rattle.std.proofs.Common.{◌≡◌, length, sym, ap, subst, arith, take_at}
use Rattle.langtag_posix.proofs.Definitions.{IsFormOfName, with_said, text_of_name}
use Rattle.langtag.proofs.FormLaws.{written_whole}
use Rattle.langtag_posix.proofs.PosixLaws.{written_of}
use Rattle.langtag_posix.proofs.posix.bytes_of.Goals as goal

-- both calls write the one tag, and the second one has just the room for it
pub returns-clause-tag : goal.returns-clause-tag
returns-clause-tag c =
    let name = c.args.name.now in
    let named = c.in-Some.ensures.written.0 in
    let (len, w) = written_of c.write_form-2.result c.write_form-2.ensures.written named in
    let before = c.deref_mut.result.now in
    let room : length before ≡ c.in-Some.len = omega (arith, ap length c.deref_mut.ensures.value, c.in_ok-bytes.ensures.len, c.in_ok-bytes.bytes.ok) in
    let whole = written_whole (with_said name) (text_of_name name) _ _ before c.write_form-2.new.buffer _ _ c.in-Some.ensures.written.1 w room in
    let size : length c.write_form-2.new.buffer ≡ c.in_ok-bytes.bytes.len =
    omega (arith, whole.0, room, c.in_ok-bytes.ensures.len) in
    (named, subst (IsFormOfName name) (sym (take_at c.write_form-2.new.buffer _ c.in_ok-bytes.bytes.len size)) whole.1)
