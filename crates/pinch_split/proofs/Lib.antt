mod Examples
pub mod Anew
pub mod Back
pub mod Clean
pub mod CleanFans
pub mod Corners
pub mod FanLists
pub mod LeastHalves
pub mod RankSums
pub mod TwinsStay
pub mod Whole
