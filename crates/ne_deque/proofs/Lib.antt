pub mod AmongKeys
pub mod Ends
