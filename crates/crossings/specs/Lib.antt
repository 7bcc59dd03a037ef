pub mod Agreement
pub mod Apart
pub mod Hits
pub mod Near
pub mod Runs
