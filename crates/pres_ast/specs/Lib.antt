pub mod PredTree
pub mod PredCode
pub mod PredModel
pub mod TreeOf
pub mod PredicateValue
