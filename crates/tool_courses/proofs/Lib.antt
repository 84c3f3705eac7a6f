pub mod ProvedBundles
pub mod Ran
pub mod Ends
pub mod Endings
pub mod Leads
