pub mod Values
pub mod FieldTables
pub mod WholeTags
pub mod RepeatsSeen
pub mod RepeatCase
