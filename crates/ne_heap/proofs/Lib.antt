pub mod Exchanged
pub mod Items
pub mod OneItem
