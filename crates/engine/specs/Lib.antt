pub mod Acts
pub mod Own
pub mod Entry
pub mod Promise
