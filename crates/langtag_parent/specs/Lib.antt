pub mod Base
pub mod Chain
pub mod Decided
pub mod Parent
pub mod ParentLaws
pub mod ParentLocales
