mod Values
pub mod Limits
pub mod Steps
pub mod Ends
pub mod Traces
pub mod Complete
pub mod Prefixes
pub mod Goes
pub mod Shows
pub mod Outcomes
pub mod Digits
pub mod Lexing
pub mod Printed
pub mod PrintedTrees
pub mod Kept
pub mod KeptRuns
pub mod Again
pub mod PrintedLength
pub mod KnownNames
mod Opens
mod Whole
mod Breaks
mod BrokenRules
mod Explained
pub mod PredTexts
