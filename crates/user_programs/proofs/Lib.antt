pub mod Counted
pub mod Determined
pub mod Groups
pub mod GroupsOfRows
pub mod Joined
pub mod Lookups
pub mod Numerals
pub mod Totals
