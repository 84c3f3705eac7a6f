pub mod Postfix
pub mod Narrow
pub mod Chosen
pub mod FewerStates
pub mod FewStatesProof
pub mod Valid
pub mod Adding
pub mod AtLeastTwoProof
