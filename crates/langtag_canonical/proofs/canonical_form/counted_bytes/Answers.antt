use Rattle.langtag_scan.proofs.Prelude.{◌≡◌, ◌++◌, [], append-nil, drop, length, ap, ◌∙◌, arith, drop_all, take_at}
use Rattle.langtag_canonical.proofs.canonical_form.counted_bytes.Goals as goal

-- the second call has just the room for the form
pub returns : goal.returns
returns c = λ r spells.
    let before = c.deref_mut.result.now in
    let after = c.write_canonical_parts-2.new.buffer in
    let n = c.in_ok-bytes.bytes.len in
    let first = c.write_canonical_parts.ensures.form r spells in
    let second = c.write_canonical_parts-2.ensures.form r spells in
    let same : n ≡ length second.text = omega (arith, first.whole, c.in_ok-bytes.ensures.len, c.in_ok-bytes.bytes.ok, ap length first.is_so, ap length second.is_so) in
    let room : length before ≡ length second.text = omega (arith, same, ap length c.deref_mut.ensures.value, c.in_ok-bytes.bytes.ok) in
    let none : drop (length second.text) before ≡ [] = drop_all (length second.text) before (omega (arith, room)) in
    let whole : after ≡ second.text = second.written (omega (arith, room)) ∙ ap (λ t. second.text ++ t) none ∙ append-nil second.text in
    take_at after _ n (omega (arith, ap length whole, same)) ∙ whole ∙ second.is_so
