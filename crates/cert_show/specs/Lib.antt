pub mod Lines
pub mod LeafLines
pub mod Shown
pub mod Showable
pub mod LinesTell
pub mod TextTells
