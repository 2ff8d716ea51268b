pub mod Applied
pub mod Commands
pub mod Listing
