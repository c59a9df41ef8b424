pub mod HashLends
pub mod ValidHashMap
pub mod ValidHashSet
