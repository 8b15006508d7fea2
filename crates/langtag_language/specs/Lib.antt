pub mod Language
pub mod Decided
pub mod Text
pub mod Compared
