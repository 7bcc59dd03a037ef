pub mod Grouped
pub mod Keys
pub mod Numbers
