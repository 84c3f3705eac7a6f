pub mod FlockAtoms
pub mod FullState
