pub mod Devices
pub mod Lines
pub mod Modes
pub mod Faults
pub mod ProgramRuns
