pub mod Eval
pub mod Play
pub mod Compile
