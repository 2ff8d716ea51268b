pub mod Members
pub mod Walks
pub mod Counts
pub mod Least
pub mod Faults
