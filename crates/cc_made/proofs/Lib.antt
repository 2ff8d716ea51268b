pub mod Ending
pub mod Filling
pub mod Lines
pub mod Passing
pub mod Registers
pub mod Tables
