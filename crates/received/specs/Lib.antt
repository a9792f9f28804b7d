-- What is received of an input.
pub mod Deck
