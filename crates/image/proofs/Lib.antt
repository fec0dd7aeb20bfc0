pub mod Records
pub mod Sounds
