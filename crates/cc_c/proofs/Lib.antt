pub mod HandleWord
pub mod Statuses
