-- Worked cases of the definitions.
pub mod Worked
