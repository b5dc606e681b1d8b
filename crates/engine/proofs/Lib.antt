pub mod Steps
pub mod Areas
