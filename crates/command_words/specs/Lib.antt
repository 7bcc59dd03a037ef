pub mod ClapGrammar
pub mod Commands
pub mod Grammar
pub mod Values
