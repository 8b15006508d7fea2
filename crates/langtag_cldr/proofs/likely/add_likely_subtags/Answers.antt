use Rattle.std.proofs.Common.{sym, ◌∙◌}
use Rattle.langtag_cldr.specs.Texts.{field_texts}
use Rattle.langtag_cldr.proofs.CanonicalFields.{current_added}
use Rattle.langtag_cldr.proofs.likely.add_likely_subtags.Goals as goal

pub returns-in-Some : goal.returns-in-Some
returns-in-Some c =
    sym (current_added (field_texts c.args.fields) (field_texts c.in-Some.most) (sym c.is_current_region.ensures ∙ c.if-is_current_region.true) (sym c.in-Some.ensures))
