pub mod Text
pub mod Compared
pub mod Conversion
pub mod Spelling
pub mod ExtensionTexts
pub mod Decided
pub mod Noted
