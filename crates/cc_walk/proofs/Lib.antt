pub mod Sets
pub mod WalkLists
