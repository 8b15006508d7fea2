pub mod Prelude
pub mod BoolFacts
pub mod Disjoint
mod Decoding
pub mod CaseOrder
pub mod SubtagFacts
mod Running
pub mod NormalTexts
mod StageLaws
pub mod TagLaws
mod StateTables
mod SubtagReading
mod PositionLaws
mod ReadingLaws
pub mod CaseLaw
pub mod Ascii
pub mod SubtagLists
pub mod Joins
pub mod PartOffsets
pub mod SpelledTexts
pub mod FoundLaws
pub mod IrregularTexts
pub mod Digits
pub mod FoldedNumbers
pub mod Laws
