pub mod Memory
pub mod Phases
pub mod OnPages
pub mod Own
