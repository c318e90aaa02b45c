pub mod Refusing
pub mod Holding
pub mod Growing
pub mod Levels
pub mod Whole
