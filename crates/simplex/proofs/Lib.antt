-- What the code's expressions are, as the machine has them, that none overflows, and tests in a chain.
pub mod Machine
pub mod Tests
