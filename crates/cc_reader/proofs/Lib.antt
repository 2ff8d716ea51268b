pub mod Cutting
pub mod Using
pub mod Given
pub mod Returns
pub mod Reading
