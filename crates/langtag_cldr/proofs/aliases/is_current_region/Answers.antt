use Rattle.langtag_scan.proofs.Prelude.{eqb-true, arith, nat_tests}
use Rattle.langtag_cldr.specs.Texts.{field_texts}
use Rattle.langtag_cldr.proofs.CanonicalFields.{no_region}
use Rattle.langtag_cldr.proofs.aliases.is_current_region.Goals as goal

pub returns-then-is_empty : goal.returns-then-is_empty
returns-then-is_empty c = grind (arith, nat_tests, c.if-is_empty.true, no_region (field_texts c.args.fields), eqb-true, c.is_empty.ensures)
