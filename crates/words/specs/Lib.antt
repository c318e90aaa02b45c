pub mod Kinds
pub mod Wording
