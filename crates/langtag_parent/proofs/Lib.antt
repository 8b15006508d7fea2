pub mod Bases
pub mod Chains
pub mod Latin
pub mod Lines
pub mod Members
pub mod Rows
pub mod Texts
