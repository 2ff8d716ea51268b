pub mod Marked
pub mod ReflectorKeys
pub mod Wrapped
