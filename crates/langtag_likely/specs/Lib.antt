pub mod Marked
pub mod Maximal
pub mod MaximalLaws
