pub mod Causes
pub mod Script
pub mod SourceModels
pub mod SinkModels
pub mod Names
pub mod Gives
pub mod Failures
