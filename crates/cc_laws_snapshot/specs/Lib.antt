pub mod Gentle
pub mod Kinds
pub mod Losing
pub mod KindsSuspected
pub mod Black
