pub mod Locale
pub mod LocaleAliases
pub mod LocaleForm
pub mod Allowed
pub mod Resolved
pub mod WishTexts
pub mod ResolvedLaws
