pub mod Keys
pub mod Keyed
pub mod Made
pub mod Numbered
pub mod Ready
pub mod Used
