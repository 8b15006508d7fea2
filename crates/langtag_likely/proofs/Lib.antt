pub mod Definitions
pub mod FormsTwice
pub mod GoodForms
pub mod MarkCase
pub mod MarkLaws
pub mod PutLaws
