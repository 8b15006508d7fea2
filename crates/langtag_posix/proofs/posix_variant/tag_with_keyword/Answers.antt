use Rattle.std.proofs.Common.{◌≤◌, ◌∙◌, length, refl, sym, ap, arith}
use Rattle.langtag.proofs.FormLaws.{kept_form, record_form}
use Rattle.langtag_scan.specs.Tag.{IsNormal}
use Rattle.langtag_posix.specs.Posix.{posix_replaced}
use Rattle.langtag_posix.proofs.PosixLaws.{posix_tag, written_cut, written_posix}
use Rattle.langtag_posix.proofs.posix_variant.tag_with_keyword.Goals as goal

pub returns-in_default-clause-form : goal.returns-in_default-clause-form
returns-in_default-clause-form c = kept_form posix_replaced _ _ (λ normal. let never = c.in_default.ensures.kind.1 normal in absurd cc) refl

pub shared_ref_as_front-from_bytes : goal.shared_ref_as_front-from_bytes
unfolding IsNormal
shared_ref_as_front-from_bytes c =
    let (r, spells) = c.in-Some.ensures.kind.0 refl in
    let around = c.in-Some-around_posix.ensures r (spells.0, spells.1 ∙ sym c.in-Some.ensures.same_text) in
    let (text, size) = written_posix r c.in-Some-around_posix.before.now c.in-Some-around_posix.after.now _ around refl in
    let w = c.write_pieces-len.ensures.written (omega (arith, size, ap length spells.1, c.requires)) in
    omega (arith, w.whole, ap length w.is_so, size, ap length spells.1, c.requires)

pub unreachable-requires : goal.unreachable-requires
unfolding IsNormal
unreachable-requires c =
    let (r, spells) = c.in-Some.ensures.kind.0 refl in
    let around = c.in-Some-around_posix.ensures r (spells.0, spells.1 ∙ sym c.in-Some.ensures.same_text) in
    let (text, size) = written_posix r c.in-Some-around_posix.before.now c.in-Some-around_posix.after.now _ around refl in
    let w = c.write_pieces-len.ensures.written (omega (arith, size, ap length spells.1, c.requires)) in
    let room : c.write_pieces-len.result ≤ length c.args.room.now = omega (arith, w.whole, ap length w.is_so, size, ap length spells.1, c.requires, c.fits-room) in
    let never = c.in-Err.ensures.accepts.1 (posix_tag r _ spells.0 (written_cut _ _ _ _ w room ∙ text)) in
    absurd cc

pub returns-clause-form : goal.returns-clause-form
unfolding IsNormal
returns-clause-form c =
    let (r, spells) = c.in-Some.ensures.kind.0 refl in
    let around = c.in-Some-around_posix.ensures r (spells.0, spells.1 ∙ sym c.in-Some.ensures.same_text) in
    let (text, size) = written_posix r c.in-Some-around_posix.before.now c.in-Some-around_posix.after.now _ around refl in
    let w = c.write_pieces-len.ensures.written (omega (arith, size, ap length spells.1, c.requires)) in
    let room : c.write_pieces-len.result ≤ length c.args.room.now = omega (arith, w.whole, ap length w.is_so, size, ap length spells.1, c.requires, c.fits-room) in
    record_form posix_replaced _ _ r spells (c.in-Ok.ensures.same_text ∙ written_cut _ _ _ _ w room ∙ text)
