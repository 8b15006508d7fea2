use Rattle.std.proofs.Common.{Some, option_map, sym, ap, ◌∙◌}
use Rattle.langtag_language.specs.Text.{primary_language_text}
use Rattle.langtag_fields.specs.Fields.{extlang_prefix}
use Rattle.langtag_fields.specs.Subtags.{extlang_prefixes}
use Rattle.langtag_fields.proofs.FieldTables.{prefix_table, prefix_good}
use Rattle.langtag_fields.proofs.prefixes.prefix_of_language.Goals as goal

pub from_checked-requires : goal.from_checked-requires
unfolding extlang_prefix
from_checked-requires c = prefix_good _ _ (sym (c.in_ok-text.ensures extlang_prefixes prefix_table ∙ ap extlang_prefix c.as_bytes.ensures))

pub returns : goal.returns
unfolding extlang_prefix
returns c = ap Some c.from_checked.ensures ∙ c.in_ok-text.ensures extlang_prefixes prefix_table ∙ ap extlang_prefix c.as_bytes.ensures

pub returns-in_err-text : goal.returns-in_err-text
unfolding extlang_prefix
returns-in_err-text c = ap (option_map primary_language_text) c.from_residual.ensures ∙ c.in_err-text.ensures extlang_prefixes prefix_table ∙ ap extlang_prefix c.as_bytes.ensures
