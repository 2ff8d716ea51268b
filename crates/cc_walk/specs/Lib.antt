pub mod Walks
pub mod WalkLists
