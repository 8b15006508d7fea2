pub mod Definitions
pub mod KeywordNameLaws
pub mod LastFields
pub mod PosixLaws
pub mod PosixNameLaws
pub mod PosixNameRead
pub mod TextOfName
