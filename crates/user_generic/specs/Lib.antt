pub mod Numbering
pub mod OwnSources
pub mod OwnSourceLaws
pub mod InnerSources
pub mod TwoCollections
pub mod RunsOfResults
pub mod Nested
