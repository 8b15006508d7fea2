use Rattle.langtag_keyword.proofs.Common.{inr, refl}
use Rattle.std.proofs.lemmas.Option.{IfSome_then}
use Rattle.langtag_locale.proofs.RangeLaws.{named_none, unnamed_none}
use Rattle.langtag_locale.proofs.range_locale.range_locale.Goals as goal

pub returns-in_err-posix_tag-clause-none : goal.returns-in_err-posix_tag-clause-none
returns-in_err-posix_tag-clause-none c = λ is. unnamed_none c.args.range.now (c.in_default.ensures.none refl) (c.in_err-posix_tag.ensures.none refl)

pub returns-clause-some : goal.returns-clause-some
returns-clause-some c =
    IfSome_then c.locale_of-2.result c.locale_of-2.ensures.some
    (λ locale has. inr (c.in_default.ensures.none refl, (c.in_ok-posix_tag.field-0.now, c.in_ok-posix_tag.ensures.some, has)))

pub returns-clause-none : goal.returns-clause-none
returns-clause-none c = λ is. named_none c.args.range.now c.in_ok-posix_tag.field-0.now (c.in_default.ensures.none refl) c.in_ok-posix_tag.ensures.some (c.locale_of-2.ensures.none is)
