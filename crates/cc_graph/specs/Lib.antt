pub mod Shown
pub mod Rooms
pub mod Closed
pub mod Kept
pub mod Numbers
pub mod Natives
pub mod Held
