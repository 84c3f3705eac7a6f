pub mod Layered
pub mod SetFaults
pub mod SetSearch
pub mod SetTests
