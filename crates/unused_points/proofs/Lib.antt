pub mod AllUsed
pub mod KeptMesh
pub mod Marks
pub mod Numbers
pub mod PointSteps
pub mod TripleSteps
