pub mod FaultLaws
pub mod MisplacedLaws
-- what the crates above cite
pub use Rattle.langtag_canonical.proofs.CanonicalCase
pub use Rattle.langtag_canonical.proofs.CanonicalParts
pub use Rattle.langtag_canonical.proofs.OneForm
