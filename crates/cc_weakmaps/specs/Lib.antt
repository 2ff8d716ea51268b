pub mod Entries
pub mod Places
pub mod Living
pub mod Index
pub mod Lasts
pub mod Kept
