use Rattle.langtag_show.proofs.Written.{lines_cut, one_cut, one_report}
use Rattle.langtag_show.specs.ShowLaws.{one_show_answer}
use Rattle.langtag_show.proofs.run.run.Goals as goal

pub returns-clause-cut : goal.returns-clause-cut
returns-clause-cut g c = lines_cut

pub returns-clause-one_cut : goal.returns-clause-one_cut
returns-clause-one_cut g c = one_cut

pub returns-clause-one_answer : goal.returns-clause-one_answer
returns-clause-one_answer g c = one_show_answer

pub returns-clause-one_report : goal.returns-clause-one_report
returns-clause-one_report g c = one_report
