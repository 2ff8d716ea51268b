pub mod Own
pub mod Values
pub mod Calls
pub mod Telling
pub mod Walks
