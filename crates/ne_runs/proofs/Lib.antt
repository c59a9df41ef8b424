pub mod FirstLine
pub mod ModeRows
pub mod Numbers
pub mod OneList
pub mod Rows
pub mod Writes
