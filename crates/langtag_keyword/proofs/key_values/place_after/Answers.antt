use Rattle.langtag_keyword.proofs.Common.{sym, ◌∙◌, arith, nat_tests, opens_keyword}
use Rattle.langtag_keyword.proofs.KeyValues.{place-found}
use Rattle.langtag_keyword.proofs.key_values.place_after.Goals as goal

pub returns-in-len2-clause-place : goal.returns-in-len2-clause-place
returns-in-len2-clause-place c = λ second is.
    place-found (opens_keyword c.args.keys) c.args.first second c.place_of.result c.args.subtag.now c.requires c.in-len2.len_at_least c.in-len2.len_below
    (grind (arith, nat_tests, c.into_smallcase.ensures, c.into_smallcase-then-subtag-lt3.ensures, c.if-into_smallcase.true)) (sym c.has.ensures.is_key ∙ c.if-has.true) c.place_of.ensures.place is
