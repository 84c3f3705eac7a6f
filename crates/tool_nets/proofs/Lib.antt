pub mod Played
pub mod PlayEnds
pub mod PlayTuples
pub mod Endings
pub mod OnePlay
