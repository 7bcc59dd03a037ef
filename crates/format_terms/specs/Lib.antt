pub mod Obj
pub mod ObjFaces
pub mod ObjLabels
pub mod ObjWritten
pub mod Stl
pub mod StlGrammar
pub mod StlWritten
