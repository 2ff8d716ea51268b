pub mod MarkedNodes
pub mod NodesByName
pub mod Chains
pub mod Lists
pub mod Numbering
pub mod Mappings
pub mod Whole
