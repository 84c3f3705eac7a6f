pub mod DemoCase
