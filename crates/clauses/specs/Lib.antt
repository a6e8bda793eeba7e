-- Clauses: the definitions that the contracts cite.
pub mod Literals
pub mod Clauses
pub mod Flat
pub mod Formula
pub mod Numbering
pub mod Models
pub mod Says
