pub mod Kept
pub mod Turns
pub mod Turned
pub mod EntryPlaces
pub mod Given
pub mod Wanted
pub mod Searched
