pub mod Pooled
pub mod Blocks
