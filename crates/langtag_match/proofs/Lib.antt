pub mod Found
pub mod Readings
-- what the crates above cite
pub use Rattle.langtag_range.proofs.BasicForms
