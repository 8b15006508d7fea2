use Rattle.std.proofs.Common.{length, ap, arith}
use Rattle.langtag_posix.proofs.LastFields.{few_said}
use Rattle.langtag_posix.proofs.platform_names.last_field.Goals as goal

pub returns-in-Some-clause-few : goal.returns-in-Some-clause-few
returns-in-Some-clause-few c = omega (arith, ap length c.as_bytes.ensures.value, few_said _ _ _ c.last_fields.ensures c.in-Some.ensures)
