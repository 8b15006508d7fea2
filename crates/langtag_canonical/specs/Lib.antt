pub mod Canonical
pub mod CanonicalLaws
pub mod Form
