pub mod EditLaws
pub mod PartRules
pub mod SingletonRepeats
pub mod KeptFound
mod RefusalLaws
pub mod RegisteredLaws
pub mod OrderLaws
pub mod FormLaws
-- what the crates above cite with the others
pub use Rattle.langtag_scan.proofs.TagLaws
pub use Rattle.langtag_place.proofs.RepeatLaws
