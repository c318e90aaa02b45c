pub mod Chart
pub mod Counts
