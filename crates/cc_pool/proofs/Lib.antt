pub mod Filling
pub mod Places
pub mod Growing
pub mod Emptying
