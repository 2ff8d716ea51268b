pub mod Words
pub mod Pending
pub mod HasRead
pub mod Given
pub mod Used
