pub mod Banks
pub mod Members
pub mod Named
pub mod Found
pub mod Search
pub mod Needed
