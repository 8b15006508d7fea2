use Rattle.langtag_keyword.proofs.Common.{◌∷◌, [], pushes_same, segments_left, in_alphabet, number_text}
use Rattle.langtag_keyword.proofs.LeastTexts.{each-number, put-texts, rounds-ended, rounds-first, rounds-next, rounds-smaller}
use Rattle.langtag_locale.specs.LocaleForm.{forms}
use Rattle.langtag_locale.proofs.IdentifierForms.{forms_fit}
use Rattle.langtag_locale.proofs.locale_variants.push_with_room.Goals as goal

pub loop-more-init : goal.loop-more-init
loop-more-init g c =
    let vs = segments_left c.args.variants in
    rounds-first (λ n. number_text n ∷ []) (forms c.args.language.now vs vs) _ _ (forms_fit c.args.language.now vs vs c.requires.variants) c.new-least.ensures.empty c.new-least.ensures.last

pub loop-more-preserved : goal.loop-more-preserved
loop-more-preserved g c =
    rounds-next c.loop-more.invariant c.sort.new.self c.advance-more.new.self c.loop-more-test.true c.offer_forms.ensures c.sort.ensures.kept c.sort.ensures.limit
    c.advance-more.ensures.next _ _ _ c.advance-more.ensures.empty c.advance-more.ensures.more c.kept.ensures c.push_numbers.ensures

pub loop-more-smaller : goal.loop-more-smaller
loop-more-smaller g c =
    rounds-smaller c.loop-more.invariant c.sort.new.self c.advance-more.new.self c.loop-more-test.true c.offer_forms.ensures c.sort.ensures.kept c.sort.ensures.limit c.advance-more.ensures.next

pub returns : goal.returns
returns g c =
    let vs = segments_left c.args.variants in
    let ss = forms c.args.language.now vs vs in
    pushes_same _ _ _ _ (put-texts (in_alphabet ss) (each-number ss (forms_fit c.args.language.now vs vs c.requires.variants))) (rounds-ended c.loop-more.invariant c.loop-more-test.false)
