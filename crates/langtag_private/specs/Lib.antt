pub mod PrivateUse
pub mod Decided
pub mod Text
pub mod Compared
