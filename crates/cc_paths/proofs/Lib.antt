pub mod Named
pub mod Members
pub mod Told
