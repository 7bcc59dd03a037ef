pub mod Ended
pub mod FileTexts
pub mod FilesEnded
pub mod Saved
pub mod Spares
pub mod Texts
