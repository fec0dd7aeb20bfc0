pub mod Keeping
pub mod Holding
