use Rattle.std.proofs.Common.{◌≡◌, ◌≤◌, subst}
use Rattle.langtag_range.specs.Listed.{basic_text}
use Rattle.langtag_choice.specs.Distance.{distance_of_texts}
use Rattle.langtag_choice.specs.Nearness.{kept}
use Rattle.langtag_choice.proofs.FoundLaws.{far_at}
use Rattle.langtag_choice.proofs.known_at.is_far_at.Goals as goal

pub returns-in-Some : goal.returns-in-Some
returns-in-Some g c = λ yes.
    far_at (g.T.TagList.texts c.args.tags.now) c.args.wish.now c.args.index
    (λ text there. c.is_far_from.ensures.far yes text (c.form_at.ensures c.in-Some.prepared c.in-Some.is text there))
    (λ text there. c.is_far_from.ensures.kept yes text (c.form_at.ensures c.in-Some.prepared c.in-Some.is text there))

pub returns-in-None : goal.returns-in-None
returns-in-None g c = λ yes.
    let range = basic_text c.args.wish.now.range.now in
    far_at (g.T.TagList.texts c.args.tags.now) c.args.wish.now c.args.index
    (λ text there. subst (λ t. 50 ≤ distance_of_texts range t) (c.bytes_at.ensures text there) (c.is_far_from-in-None.ensures.far yes))
    (λ text there. subst (λ t. kept range t ≡ 0) (c.bytes_at.ensures text there) (c.is_far_from-in-None.ensures.kept yes))
