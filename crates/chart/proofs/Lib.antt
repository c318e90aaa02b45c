pub mod Texts
pub mod Adding
