pub mod Places
pub mod Putting
pub mod Walking
pub mod Numbers
