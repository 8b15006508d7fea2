use Rattle.langtag_keyword.proofs.Common.{◌-◌, ◌∷◌, [], segments_left, number_text}
use Rattle.langtag_keyword.proofs.LeastTexts.{Rounds}
use Rattle.langtag_locale.specs.LocaleForm.{forms}
use Rattle.langtag_locale.proofs.locale_variants.push_with_room.Given as goal

-- the forms that are left are put after those before them
abbrev pub invariant-loop-more : goal.invariant-loop-more
invariant-loop-more g l =
    let vs = segments_left l.variants in
    Rounds (λ n. number_text n ∷ []) (forms l.language vs vs) l.least l.more l.fn.out l.out

abbrev pub decreases-loop-more : goal.decreases-loop-more
decreases-loop-more g l = 18446744073709551615 - l.least.last
