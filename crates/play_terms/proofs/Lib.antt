mod Endings
pub mod GivenKinds
mod PlayRows
mod ProgramRows
mod Rows
mod ScriptRows
pub mod Soundness
pub mod Suffix
mod Taken
