pub mod Certified
pub mod Check
pub mod Show
pub mod Settle
