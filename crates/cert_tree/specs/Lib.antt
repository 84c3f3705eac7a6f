pub mod Frames
pub mod Rooms
pub mod Walks
pub mod Format
pub mod Refusals
pub mod Halts
pub mod NoEnds
pub mod RefusalLaw
