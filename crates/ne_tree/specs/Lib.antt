pub mod TreeLends
pub mod TreeLendLaws
pub mod InOrder
pub mod ValidTreeMap
pub mod ValidTreeSet
