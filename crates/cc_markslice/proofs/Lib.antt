pub mod Going
pub mod EndSpares
pub mod Stepped
