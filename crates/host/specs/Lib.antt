pub mod Ends
pub mod Sides
pub mod Undone
