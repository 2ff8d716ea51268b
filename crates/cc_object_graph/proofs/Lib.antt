pub mod NumberedLists
pub mod KeysOfNames
pub mod KeyedEntries
pub mod HaveKeys
