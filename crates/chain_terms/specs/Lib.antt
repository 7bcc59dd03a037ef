pub mod Chains
pub mod Cycles
pub mod Odd
pub mod Paths
pub mod Permutations
pub mod Ranks
pub mod Sums
