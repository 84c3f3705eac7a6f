pub mod LayerFaults
pub mod MoveLayers
pub mod Search
pub mod Waking
pub mod TameTest
pub mod TameWork
