pub mod Course
pub mod Proved
pub mod RunOutput
pub mod DemoOutput
pub mod Prepared
