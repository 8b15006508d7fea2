pub mod Entry
pub mod Subtags
pub mod Registered
pub mod Fields
pub mod Tables
pub mod Valid
