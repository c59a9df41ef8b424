pub mod Characters
pub mod CharacterLaws
