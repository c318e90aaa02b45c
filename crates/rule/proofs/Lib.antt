pub mod Rules
pub mod Answered
pub mod Turns
pub mod Standings
pub mod Below
pub mod Backs
pub mod Toward
pub mod Printings
