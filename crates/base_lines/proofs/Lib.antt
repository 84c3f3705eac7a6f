pub mod Pieces
pub mod Joined
pub mod Digits
pub mod Printed
pub mod Places
mod Parts
pub mod Unbroken
