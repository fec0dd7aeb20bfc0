pub mod Bits
pub mod Maps
pub mod Queues
pub mod Tables
pub mod Feeds
