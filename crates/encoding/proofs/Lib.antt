-- The table of a rule's words has the rule's values, and its clauses are met exactly where the rule fails.
pub mod Filling
pub mod Tables
pub mod Commuting
pub mod Placing
pub mod TermValues
pub mod Standing
pub mod Steps
pub mod Rules
pub mod TableNets
pub mod AllTerms
pub mod Differing
pub mod Stating
pub mod Encoding
pub mod TableSizes
pub mod NetSizes
pub mod Wholeness
