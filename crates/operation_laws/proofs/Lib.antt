pub mod FaceLabels
pub mod GridNumbers
pub mod HitPoints
pub mod Made
pub mod OfSides
mod OutlinePoints
mod OutlinesGiven
pub mod ReducedSides
pub mod Results
mod Rows
