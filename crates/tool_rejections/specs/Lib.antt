pub mod Judged
pub mod Rejections
pub mod Told
