pub mod KeyListSets
pub mod IndexLends
pub mod Puts
pub mod ValidIndexMap
pub mod ValidIndexSet
