mod Bounds
pub mod Endings
mod Firsts
mod Fuel
mod Grouping
mod Hushed
mod Lasting
mod Layering
pub mod Once
mod Running
mod Searching
mod Taking
mod Walking
mod Words
pub mod HushedLeaves
mod ChosenLayers
mod Takes
mod Dead
pub mod Rests
mod GoalBounds
mod GoalGiven
