mod Behind
mod Items
mod Readable
mod TextBytes
mod WrittenData
pub mod ReadBack
