pub mod Typings
pub mod Sets
pub mod Layers
pub mod Waiting
