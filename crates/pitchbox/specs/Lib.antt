pub mod Layout
pub mod Loads
pub mod Names
