pub mod Costs
pub mod Halts
pub mod Held
pub mod Made
pub mod Names
pub mod Operations
pub mod Outcomes
pub mod Texts
