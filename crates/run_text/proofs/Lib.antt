pub mod Texts
pub mod MadeAlone
pub mod Looks
