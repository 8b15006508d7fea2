use Rattle.langtag_registry.specs.Valid.{IsValid}
use Rattle.langtag_c.proofs.validity.langtag_validity.Goals as goal

-- what is valid is a tag
pub returns-in_default-clause-valid : goal.returns-in_default-clause-valid
unfolding IsValid
returns-in_default-clause-valid c = (λ is. absurd cc, λ valid. absurd (c.in_default.ensures valid.0))
