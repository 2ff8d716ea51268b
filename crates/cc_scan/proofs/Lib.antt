pub mod Passing
pub mod Longer
pub mod Values
pub mod BlackenedTargets
pub mod LookedAt
pub mod Looks
pub mod Scanned
