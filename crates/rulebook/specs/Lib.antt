-- What the exported calls promise.
pub mod Codes
