pub mod Executions
pub mod StablyComputes
pub mod Synchronous
pub mod Extensions
pub mod Laws
pub mod OutputStable
pub mod Times
