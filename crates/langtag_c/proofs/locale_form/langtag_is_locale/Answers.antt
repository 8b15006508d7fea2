use Rattle.std.proofs.Common.{inl, refl}
use Rattle.langtag_scan.specs.Tag.{IsNormal, IsTag}
use Rattle.langtag_c.proofs.locale_form.langtag_is_locale.Goals as goal

pub returns-in-None : goal.returns-in-None
unfolding IsNormal IsTag
returns-in-None c = record { locale = record { part = λ r spells. absurd (c.in-None.ensures (inl (r, spells))); absent = λ other. refl } }
