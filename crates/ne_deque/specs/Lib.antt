pub mod Iterators
pub mod IteratorLaws
pub mod Kept
pub mod QueueLends
