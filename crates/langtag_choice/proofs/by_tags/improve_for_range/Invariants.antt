use Rattle.std.proofs.Common.{◌&&◌, ◌+◌, ◌<◌, length, nat_lt}
use Rattle.langtag_range.specs.Definitions.{listed_element}
use Rattle.langtag_choice.specs.Found.{IsWorst, ListTriesRange, is_flagged}
use Rattle.langtag_choice.proofs.by_tags.improve_for_range.Given as goal

abbrev pub invariant-loop-offset : goal.invariant-loop-offset
invariant-loop-offset g l = record {
  inside : l.worst < length l.best;
  last : IsWorst l.best l.worst;
  tries : ListTriesRange (listed_element l.wanted) l.place (g.T.TagList.texts l.tags) (λ index. is_flagged l.start l.free index && nat_lt index (l.start + l.offset)) l.fn.best l.best;
}
