pub mod Lists
pub mod Unmarkable
pub mod Between
