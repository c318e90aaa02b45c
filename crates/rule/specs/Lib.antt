pub mod Signing
pub mod Rules
pub mod Answers
pub mod Walks
pub mod Printing
