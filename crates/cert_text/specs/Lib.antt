pub mod Bundle
pub mod LeafText
pub mod ReadBack
