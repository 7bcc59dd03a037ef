pub mod Keeping
pub mod ScriptsReadingBack
pub mod SoFar
