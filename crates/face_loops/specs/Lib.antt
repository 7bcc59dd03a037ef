pub mod Segments
pub mod StandingLaws
pub mod Standings
pub mod Starts
pub mod Trails
