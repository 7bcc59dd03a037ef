pub mod ObjFiles
pub mod ReadWords
pub mod ReadingBack
pub mod StlFiles
pub mod StlReading
pub mod Welding
pub mod Within
