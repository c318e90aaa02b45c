pub mod Looks
pub mod Spaces
