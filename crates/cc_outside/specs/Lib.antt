pub mod Counted
pub mod Over
pub mod Reading
pub mod Reads
pub mod Writes
pub mod Writing
