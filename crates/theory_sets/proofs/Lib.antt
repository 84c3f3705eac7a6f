pub mod Escapes
pub mod Possible
pub mod CrowdsStay
