use Rattle.langtag_locale.proofs.WrittenScript.{in_one_script}
use Rattle.langtag_locale.proofs.laws.script_is_kept.Goals as goal

pub returns : goal.returns
returns c = record { script = in_one_script }
