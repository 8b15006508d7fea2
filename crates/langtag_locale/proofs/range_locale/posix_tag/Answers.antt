use Rattle.langtag_keyword.proofs.Common.{◌≤◌, length, take, drop, sym, ap, subst, ◌∙◌, arith}
use Rattle.std.proofs.Common.{take_at}
use Rattle.langtag_posix.specs.Posix.{IsTagOfName}
use Rattle.langtag_locale.proofs.RangeLaws.{one_name}
use Rattle.langtag_locale.proofs.range_locale.posix_tag.Goals as goal

pub returns-then-len-gt-MOST_NAMED-clause-none : goal.returns-then-len-gt-MOST_NAMED-clause-none
returns-then-len-gt-MOST_NAMED-clause-none c = λ is tag named.
    let w = c.in_ok-len.ensures.written.1 in
    absurd (omega (arith, named.few, ap length (one_name c.args.name.now tag w.text named.is_tag w.is_so), w.whole, c.if-len-gt-MOST_NAMED.true))

pub returns-clause-some : goal.returns-clause-some
returns-clause-some c =
    let w = c.in_ok-len.ensures.written.1 in
    let room : c.in_ok-len.len ≤ length c.args.room.now = omega (arith, c.if-len-gt-MOST_NAMED.false, c.fits-room) in
    let is = ap (take c.in_ok-len.len) (w.written room) ∙ take_at w.text (drop c.in_ok-len.len c.args.room.now) c.in_ok-len.len (sym w.whole) in
    record {
      named = c.in_ok-len.ensures.written.0;
      is_tag = subst (IsTagOfName c.args.name.now) (sym is) w.is_so;
      few = omega (arith, ap length is, w.whole, c.if-len-gt-MOST_NAMED.false);
    }
