pub mod GoalLaws
pub mod SomeLayers
pub mod ValidGoal
pub mod GoalParts
