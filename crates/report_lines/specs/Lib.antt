pub mod Counts
pub mod Inspections
pub mod Measures
pub mod Reports
pub mod Taken
