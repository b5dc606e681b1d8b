pub mod Dates
pub mod Own
pub mod Months
mod ReadBack
mod Padded
