pub mod Naming
pub mod Lists
