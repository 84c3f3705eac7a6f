mod DemoCases
mod Changed
pub mod Endings
pub mod OneDemo
