pub mod Conserved
pub mod EachOnce
pub mod Even
pub mod Exchange
pub mod Long
pub mod Once
pub mod Prescribed
mod Rows
pub mod Whole
