pub mod Kinds
pub mod RunLimits
