pub mod Coordinates
pub mod FirstFault
pub mod Lines
pub mod Names
pub mod Numbers
pub mod Written
