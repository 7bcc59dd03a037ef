mod Examples
pub mod Across
pub mod Cancelling
pub mod Kept
pub mod KeptLabels
pub mod KeptMarks
pub mod KeptPlaces
pub mod MarkedLabels
pub mod OpenPair
pub mod Orientations
pub mod ReducedMesh
pub mod WaySteps
pub mod TriangleBuckets
