use Rattle.langtag_keyword.proofs.Common.{◌≡◌, ◌++◌, [], append-nil, drop, length, ap, ◌∙◌, arith, drop_all, spell}
use Rattle.std.proofs.lemmas.List.{take_at}
use Rattle.langtag_locale.specs.Resolved.{resolved_record}
use Rattle.langtag_locale.specs.WishTexts.{wish_texts}
use Rattle.langtag_locale.proofs.resolved.resolved_bytes.Goals as goal

-- the second call has just the room for the text
pub returns : goal.returns
returns c = λ r spells.
    let text = spell (resolved_record (wish_texts c.args.wish) r) in
    let before = c.deref_mut.result.now in
    let n = c.in_ok-bytes.bytes.len in
    let first = c.put_resolved.ensures r spells in
    let second = c.put_resolved-2.ensures r spells in
    let same : n ≡ length text = omega (arith, first.counted, c.in_ok-bytes.ensures.len, c.in_ok-bytes.bytes.ok) in
    let room : length before ≡ length text = omega (arith, same, ap length c.deref_mut.ensures.value, c.in_ok-bytes.bytes.ok) in
    let none : drop (length text) before ≡ [] = drop_all (length text) before (omega (arith, room)) in
    let whole : c.put_resolved-2.new.buffer ≡ text = second.written (omega (arith, room)) ∙ ap (λ t. text ++ t) none ∙ append-nil text in
    take_at c.put_resolved-2.new.buffer _ n (omega (arith, ap length whole, same)) ∙ whole
