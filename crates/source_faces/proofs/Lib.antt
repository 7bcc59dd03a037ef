pub mod Added
mod Between
mod Blocks
mod CanPair
pub mod Copies
mod Differing
mod EndEntries
pub mod FaceParts
mod FaceRecords
mod FaceSegments
pub mod Faces
mod Flat
pub mod Forced
pub mod FromGiven
pub mod FromLists
pub mod GivenParts
pub mod Groups
pub mod Growing
mod HalfLists
pub mod Halves
mod HitCopies
mod HitSights
pub mod Joined
mod ListFaces
mod ListGroups
mod ListKinds
mod Listed
mod Members
mod Middle
pub mod OneWay
pub mod Outcomes
mod PairLists
mod Parts
pub mod Pieces
pub mod PlainFaces
mod PrescribedHits
pub mod RecordGroups
pub mod RecordOrder
mod Rising
mod RunBlocks
mod RunEntries
mod SideLists
mod Sights
mod Signs
mod StrictSort
mod TellCopies
pub mod Tests
mod Told
mod VertexCopies
mod VertexRuns
