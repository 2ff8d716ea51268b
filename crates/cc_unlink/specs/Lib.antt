pub mod Whites
pub mod Keys
pub mod Passes
pub mod Ends
