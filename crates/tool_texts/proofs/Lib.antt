pub mod Goes
pub mod OneValue
pub mod Short
pub mod Lined
pub mod SameOutput
