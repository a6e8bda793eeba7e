-- Clauses: what the proofs of this crate, and of those above it, rest on.
pub mod Truth
pub mod Forms
pub mod Parses
pub mod Alikes
pub mod Numbers
pub mod Numbered
pub mod Values
pub mod Writing
pub mod Promise
