pub mod Event
pub mod Span
pub mod Promise
pub mod Week
pub mod Value
pub mod ByRule
pub mod First
pub mod Occurrence
