use Rattle.langtag_keyword.proofs.Common.{sym, ap, subst, ◌∙◌, AllByRecursion, segments_left, IsSubtag}
use Rattle.langtag_keyword.proofs.KeySetLaws.{each-fits}
use Rattle.langtag_unicode.proofs.keywords_iter.KeywordsIterIterator.next.Goals as goal

pub insert-is_new-requires : goal.insert-is_new-requires
insert-is_new-requires c =
    let left = ap segments_left c.in-Some.is ∙ c.split_first.ensures in
    subst IsSubtag (sym c.as_bytes.ensures.value) (subst (AllByRecursion IsSubtag) left (each-fits _ c.loop-self.self.in_class)).0
