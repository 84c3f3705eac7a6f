pub mod Named
pub mod Start
pub mod LastPair
pub mod Bundles
pub mod LastOf
