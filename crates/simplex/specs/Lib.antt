-- What the structs of the code stand for, and what functions ask.
pub mod Asks
pub mod Forms
