pub mod Text
pub mod Compared
pub mod Variants
pub mod Decided
pub mod Repeat
pub mod VariantBlocks
