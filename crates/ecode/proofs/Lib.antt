pub mod Firsts
pub mod Lists
pub mod Meets
pub mod Partings
pub mod Wired
