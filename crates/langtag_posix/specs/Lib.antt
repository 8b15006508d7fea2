pub mod KeywordNames
pub mod Modifiers
pub mod PlatformNames
pub mod Posix
pub mod PosixNames
pub mod ToPosix
