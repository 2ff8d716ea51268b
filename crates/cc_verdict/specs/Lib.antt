pub mod Following
pub mod Hearing
pub mod Numbers
pub mod Positions
pub mod Verdicts
pub mod GoingOn
pub mod Parting
