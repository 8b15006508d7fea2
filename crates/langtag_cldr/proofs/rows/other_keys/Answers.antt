use Rattle.std.proofs.Common.{refl, ap, length}
use Rattle.langtag_cldr.proofs.TableRows.{rows_listed}
use Rattle.langtag_scan.proofs.Prelude.{length-map}
use Rattle.langtag_cldr.proofs.rows.other_keys.Goals as goal

pub returns : goal.returns
returns c =
    let numbers = rows_listed.others.numbers in
    record { numbers = numbers; climbs = refl; count = simp length-map at (ap length numbers) }
