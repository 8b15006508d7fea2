use Rattle.std.proofs.Common.{sym, ◌∙◌}
use Rattle.langtag_scan.specs.CaseLaws.{are_alike-decides}
use Rattle.langtag.proofs.KeptFound.{alike_kinds}
use Rattle.langtag.proofs.lang_tag.LangTag.eq_str.Goals as goal

pub returns-clause-same_kind : goal.returns-clause-same_kind
returns-clause-same_kind c alike =
    let text = c.args.self.now.text.0.now in
    alike_kinds text c.args.other.now ((are_alike-decides text c.args.other.now).0 (sym c.eq.ensures ∙ alike))
