pub mod Forms
pub mod Made
pub mod Pieces
pub mod Asked
pub mod Ending
pub mod Known
