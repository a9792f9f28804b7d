-- Laws of what is counted from 1.
pub mod Counted
