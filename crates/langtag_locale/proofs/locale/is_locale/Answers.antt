use Rattle.std.proofs.Common.{refl}
use Rattle.langtag_scan.specs.Tag.{IsNormal}
use Rattle.langtag_locale.proofs.locale.is_locale.Goals as goal

pub returns-in-None : goal.returns-in-None
unfolding IsNormal
returns-in-None c = record { locale = record { part = λ r spells. let no = c.in-None.ensures.kind.1 (r, spells) in absurd cc; absent = λ none. refl } }
