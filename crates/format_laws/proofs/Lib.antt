pub mod Alone
pub mod Bytes
pub mod Decimals
pub mod LabelWords
pub mod Lines
pub mod ObjFiles
pub mod ObjReadMeshes
pub mod ObjSavedMeshes
pub mod Plain
pub mod ReadWords
pub mod SavedLabels
pub mod SavedLines
mod StlFiles
pub mod StlReadMeshes
pub mod StlSavedMeshes
pub mod Words
pub mod WrittenWords
