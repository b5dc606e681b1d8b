pub mod Weeks
pub mod Steps
pub mod Counting
pub mod Nexts
pub mod LeftOut
pub mod Occurring
pub mod Fewer
