mod Joined
pub mod Puts
pub mod Said
pub mod ScriptLines
