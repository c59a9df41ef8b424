pub mod Found
pub mod IndexInserts
pub mod KeyLists
pub mod Put
pub mod PutLookups
pub mod SameEntries
