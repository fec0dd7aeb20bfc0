pub mod Choice
pub mod Policies
