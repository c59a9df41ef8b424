pub mod ByEquality
pub mod CallsSoFar
pub mod SetItems
