mod Moves
mod LeafLaws
mod Postfix
pub mod NetLaws
mod Items
pub mod Writes
