pub mod Lines
pub mod Report
pub mod ShowAnswer
pub mod ShowError
pub mod ShowLaws
