pub mod NetFile
pub mod Examined
pub mod Written
pub mod NameForms
pub mod Kept
pub mod HelperRange
