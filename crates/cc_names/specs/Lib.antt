pub mod Allowance
pub mod Names
pub mod Sizes
pub mod Places
