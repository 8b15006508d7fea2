use Rattle.std.proofs.Common.{sym}
use Rattle.langtag_choice.specs.Best.{IsMatchOf}
use Rattle.langtag_choice.proofs.FoundLaws.{match_found}
use Rattle.langtag_choice.proofs.best.match_among.Goals as goal

pub returns : goal.returns
returns g c =
    let is : IsMatchOf (g.R.RangeList.elements c.args.ranges) (g.T.TagList.texts c.args.tags.now) c.match_of.result =
    match_found _ _ _ c.in_ok-found.found c.match_of.result c.in_ok-range.range.now c.in_ok-found.was c.best.ensures c.match_of.ensures.index c.match_of.ensures.place c.match_of.ensures.range c.in_ok-range.ensures.read
    c.match_of.ensures.distance in
    record {
      found = is;
      written = cc (c.in_ok-range.ensures.text, c.match_of.ensures.place, c.match_of.ensures.range);
      choice = record { pair = is.pair; here = sym is.index; least = is.least };
    }
