pub mod Arrays
pub mod BlockTotals
pub mod Commands
pub mod Times
