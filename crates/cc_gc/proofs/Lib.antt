pub mod RoundsLeft
pub mod Sparing
pub mod RoundsSpare
