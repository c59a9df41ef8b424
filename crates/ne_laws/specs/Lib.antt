pub mod Calls
pub mod MapCalls
pub mod Maps
pub mod SetCalls
pub mod Sets
pub mod VectorCalls
