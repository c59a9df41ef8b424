pub mod HashInserts
pub mod Same
pub mod Single
