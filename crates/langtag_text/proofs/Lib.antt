pub mod Alike
pub mod Elements
pub mod FieldClasses
pub mod Letters
mod PieceLaws
pub mod Pushed
pub mod RecommendedLaws
pub mod Rising
pub mod Taken
pub mod WithSubtag
