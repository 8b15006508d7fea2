pub mod Places
pub mod PlainElements
pub mod BasicForms
pub mod AlikeTexts
pub mod WantedTexts
pub mod Among
