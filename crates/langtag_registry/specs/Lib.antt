pub mod Compared
pub mod Fault
pub mod Matching
pub mod Prefix
-- the pages that are cited by the contracts of what this crate exports. So callers need to name only this crate
pub use Rattle.langtag_canonical.specs.Canonical
pub use Rattle.langtag_canonical.specs.CanonicalLaws
pub use Rattle.langtag_fields.specs.Entry
pub use Rattle.langtag_fields.specs.Fields
pub use Rattle.langtag_fields.specs.Registered
pub use Rattle.langtag_fields.specs.Subtags
pub use Rattle.langtag_fields.specs.Valid
pub use Rattle.langtag_fields.specs.declared.tables
