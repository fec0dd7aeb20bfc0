pub mod Shares
pub mod Leasts
pub mod Tells
pub mod Rulings
pub mod Exact
pub mod Verdicts
pub mod Lone
