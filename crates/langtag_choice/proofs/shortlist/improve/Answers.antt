use Rattle.std.proofs.Common.{◌==◌, None, subst}
use Rattle.std.proofs.lemmas.List.{get_or_read}
use Rattle.langtag_choice.specs.Near.{wish_element}
use Rattle.langtag_choice.specs.Found.{TriesRange}
use Rattle.langtag_choice.proofs.PutLaws.{tries_none, tries_put}
use Rattle.langtag_choice.proofs.shortlist.improve.Goals as goal

pub returns-then-candidate-index-clause-tries : goal.returns-then-candidate-index-clause-tries
returns-then-candidate-index-clause-tries g c = λ elements wanted.
    tries_none elements (g.T.TagList.texts c.args.tags.now) c.args.wish.now.place c.args.index c.args.worst c.args.best.now c.improve_entry.new.found c.requires.last
    (subst (λ held. TriesRange (wish_element c.args.wish.now) c.args.wish.now.place (g.T.TagList.texts c.args.tags.now) (λ there. there == c.args.index) held c.improve_entry.new.found)
    (get_or_read c.args.best.now c.args.worst c.index-best-worst.result c.requires.inside c.index-best-worst.is None) c.improve_entry.ensures elements wanted)
    c.in-Some.candidate c.in-Some.is c.if-candidate-index.true

pub returns-clause-tries : goal.returns-clause-tries
returns-clause-tries g c = λ elements wanted.
    tries_put elements (g.T.TagList.texts c.args.tags.now) c.args.wish.now.place c.args.index c.args.worst c.args.best.now c.improve_entry.new.found c.requires.last
    (subst (λ held. TriesRange (wish_element c.args.wish.now) c.args.wish.now.place (g.T.TagList.texts c.args.tags.now) (λ there. there == c.args.index) held c.improve_entry.new.found)
    (get_or_read c.args.best.now c.args.worst c.index-best-worst.result c.requires.inside c.index-best-worst.is None) c.improve_entry.ensures elements wanted)
    c.in-Some.candidate c.put.new.best c.in-Some.is c.if-candidate-index.false c.put.ensures.puts
