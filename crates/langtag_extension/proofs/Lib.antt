mod Numbers
pub mod Rules
pub mod ExtensionLookUp
