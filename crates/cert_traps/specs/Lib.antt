pub mod Roles
pub mod Partners
pub mod Facts
