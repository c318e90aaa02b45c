pub mod Lowests
pub mod Accepted
pub mod SeatWalk
pub mod SeatChains
