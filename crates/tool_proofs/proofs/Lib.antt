pub mod Told
pub mod Shown
pub mod Endings
pub mod OneCheck
pub mod OneShow
pub mod OneSettle
