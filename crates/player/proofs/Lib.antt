pub mod Cuts
pub mod Held
