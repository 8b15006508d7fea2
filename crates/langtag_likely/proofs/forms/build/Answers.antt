use Rattle.std.proofs.Common.{◌≡◌, ◌≤◌, flat_map, length, sym, ap, subst, ◌∙◌, arith}
use Rattle.langtag_scan.specs.Grammar.{IsTag}
use Rattle.langtag_text.proofs.Taken.{written_taken}
use Rattle.langtag_likely.proofs.forms.build.Goals as goal

-- the bytes that are left when the buffer is cut are the text of the pieces
pub tag_of-requires : goal.tag_of-requires
tag_of-requires c =
    let w = c.write_pieces-len.ensures.written (omega (arith, c.requires.short, c.in_ok-bytes.ensures, c.in_ok-bytes.bytes.ok)) in
    let within : c.write_pieces-len.result ≤ c.in_ok-bytes.bytes.len = omega (arith, c.requires.short, w.whole, ap length w.is_so, c.in_ok-bytes.ensures, c.in_ok-bytes.bytes.ok) in
    let taken = written_taken (λ new. new ≡ flat_map (λ piece. piece.now) c.args.pieces.now) c.deref_mut.result.now c.write_pieces-len.new.buffer _ c.write_pieces-len.result c.in_ok-bytes.bytes.len w
    (omega (arith, c.deref_mut.ensures.len)) within in
    subst IsTag (sym (c.truncate.ensures.items ∙ taken)) c.requires.tag

pub returns : goal.returns
returns c =
    let w = c.write_pieces-len.ensures.written (omega (arith, c.requires.short, c.in_ok-bytes.ensures, c.in_ok-bytes.bytes.ok)) in
    let within : c.write_pieces-len.result ≤ c.in_ok-bytes.bytes.len = omega (arith, c.requires.short, w.whole, ap length w.is_so, c.in_ok-bytes.ensures, c.in_ok-bytes.bytes.ok) in
    let taken = written_taken (λ new. new ≡ flat_map (λ piece. piece.now) c.args.pieces.now) c.deref_mut.result.now c.write_pieces-len.new.buffer _ c.write_pieces-len.result c.in_ok-bytes.bytes.len w
    (omega (arith, c.deref_mut.ensures.len)) within in
    c.tag_of.ensures ∙ c.truncate.ensures.items ∙ taken
