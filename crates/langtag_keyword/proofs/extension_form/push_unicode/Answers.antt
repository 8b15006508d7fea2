use Rattle.langtag_keyword.proofs.Common.{◌∷◌, [], ap, subst, sym, pushes_both, pushes_same, AllByRecursion, IsSubtag, segments_left, subtags, in_alphabet, keywords_form, unicode_form, unicode_value, before_key, is_key}
use Rattle.langtag_keyword.proofs.SubtagTexts.{fits-before_key}
use Rattle.langtag_keyword.proofs.extension_form.push_unicode.Goals as goal

pub push_in_alphabet-requires : goal.push_in_alphabet-requires
push_in_alphabet-requires c = subst (AllByRecursion IsSubtag) (sym c.preceding.ensures) (fits-before_key is_key (subtags c.args.text.now) c.requires)

pub returns : goal.returns
returns c =
    let ss = subtags c.args.text.now in
    pushes_both ((117 ∷ []) ∷ []) (unicode_form ss) _ _ _ c.push_subtag.ensures
    (pushes_both (in_alphabet (before_key is_key ss)) (keywords_form is_key unicode_value ss) _ _ _
    (pushes_same (in_alphabet (segments_left c.preceding.result)) (in_alphabet (before_key is_key ss)) _ _ (ap in_alphabet c.preceding.ensures) c.push_in_alphabet.ensures)
    c.push_keywords.ensures)
