-- What the maps and sets share: their iterators, clones, equality, removals, `extend`, `retain` and
-- key lists.
pub mod Iterators
pub mod IteratorLaws
pub mod Clones
pub mod CloneLaws
pub mod KeptEntries
pub mod KeptEntryLaws
pub mod Extends
pub mod ExtendLaws
pub mod KeyList
pub mod SameMap
pub mod TakenLaws
