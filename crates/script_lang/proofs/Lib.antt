mod Giving
mod NameTests
mod Named
mod RingWords
pub mod NameKinds
