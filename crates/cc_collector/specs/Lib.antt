pub mod Kept
pub mod Collected
pub mod Units
pub mod Settled
pub mod Sites
