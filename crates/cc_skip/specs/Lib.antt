pub mod Walked
pub mod Forgetting
