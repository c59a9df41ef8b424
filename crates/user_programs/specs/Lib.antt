pub mod Configurations
pub mod Fields
pub mod Points
pub mod Queries
pub mod Reports
pub mod Rounds
pub mod Turns
