use Rattle.langtag_choice.proofs.FoundLaws.{takes_at}
use Rattle.langtag_choice.proofs.known_at.improve_at.Goals as goal

pub returns : goal.returns
returns g c =
    takes_at (g.T.TagList.texts c.args.tags.now) c.args.wish.now c.known_at.result c.args.index c.args.found.now c.improve_near.new.found c.requires c.known_at.ensures c.improve_near.ensures
