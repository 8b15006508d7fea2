use Rattle.std.proofs.Common.{Some, option_map, sym, ap, ◌∙◌}
use Rattle.langtag_language.specs.Text.{primary_language_text}
use Rattle.langtag_fields.specs.Fields.{macrolanguage}
use Rattle.langtag_fields.specs.Subtags.{language_macrolanguage}
use Rattle.langtag_fields.proofs.FieldTables.{macro_table, macro_good}
use Rattle.langtag_fields.proofs.language_fields.macrolanguage.Goals as goal

pub from_checked-requires : goal.from_checked-requires
unfolding macrolanguage
from_checked-requires c = macro_good _ _ (sym (c.in_ok-text.ensures language_macrolanguage macro_table ∙ ap macrolanguage c.as_bytes.ensures))

pub returns : goal.returns
unfolding macrolanguage
returns c = ap Some c.from_checked.ensures ∙ c.in_ok-text.ensures language_macrolanguage macro_table ∙ ap macrolanguage c.as_bytes.ensures

pub returns-in_err-text : goal.returns-in_err-text
unfolding macrolanguage
returns-in_err-text c = ap (option_map primary_language_text) c.from_residual.ensures ∙ c.in_err-text.ensures language_macrolanguage macro_table ∙ ap macrolanguage c.as_bytes.ensures
