pub mod Joints
pub mod Marking
pub mod Levels
pub mod Carrying
pub mod Looking
