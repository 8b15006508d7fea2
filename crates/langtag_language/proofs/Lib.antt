pub mod Rules
mod FirstHyphen
mod Members
mod Numbers
