pub mod RowValues
pub mod Linear
pub mod Coefficients
pub mod Multiples
pub mod Entries
pub mod Named
pub mod Refuted
pub mod Parts
