pub mod NetFaults
pub mod LaneWidth
pub mod Lanes
pub mod ExampleNets
pub mod Examples
pub mod Promises
