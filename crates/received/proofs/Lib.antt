-- Sizes of a part that was read.
pub mod Sizes
