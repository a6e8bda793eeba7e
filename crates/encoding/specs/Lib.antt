-- The encoding of a rule as clauses: the definitions that the contracts cite.
pub mod Lists
pub mod Table
pub mod Values
pub mod Encode
pub mod Sizes
