pub mod Standing
pub mod Turns
pub mod Sound
pub mod Loading
pub mod Follows
pub mod Record
pub mod Promise
