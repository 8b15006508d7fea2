pub mod Rules
mod Numbers
pub mod RepeatLaws
