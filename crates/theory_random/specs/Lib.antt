pub mod UniformRuns
pub mod RandomMeetings
pub mod ComputesAlmostSurely
pub mod Laws
pub mod Examples
