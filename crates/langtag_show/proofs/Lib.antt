pub mod KindAnswers
pub mod Written
