pub mod Pushes
pub mod Phrases
pub mod Wholes
