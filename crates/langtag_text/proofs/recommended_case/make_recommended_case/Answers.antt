use Rattle.std.proofs.Common.{ap, ◌∙◌}
use Rattle.langtag_scan.specs.Case.{fold_byte}
use Rattle.langtag_text.specs.RecommendedCase.{recommended_text}
use Rattle.langtag_text.proofs.RecommendedLaws.{recommended-fold, recommended_alike, alike_recommended, recommended_twice, recommended_each, recommended_spelled}
use Rattle.langtag_text.proofs.recommended_case.make_recommended_case.Goals as goal
use Rattle.langtag_scan.proofs.CaseLaw.{fold_text-twice}

pub capitalise_pieces-requires : goal.capitalise_pieces-requires
unfolding fold_byte
capitalise_pieces-requires c = rw c.make_ascii_lowercase.ensures.after (fold_text-twice _)

pub returns : goal.returns
unfolding fold_byte
returns c = record {
  case = c.capitalise_pieces.ensures ∙ ap recommended_text c.make_ascii_lowercase.ensures.after ∙ recommended-fold c.args.text.now;
  each_subtag = λ t subtag k there. recommended_each t subtag k there;
  alike = recommended_alike;
  of_record = recommended_spelled;
  twice = recommended_twice;
  one_key = alike_recommended;
}
