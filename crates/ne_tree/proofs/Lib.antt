pub mod TreeInserts
pub mod MapEq
pub mod SetEq
pub mod ValuesLent
