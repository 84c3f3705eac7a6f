pub mod Rejected
pub mod OneJudged
