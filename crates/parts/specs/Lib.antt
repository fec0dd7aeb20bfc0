pub mod Shown
pub mod Wired
