-- The text of a rule book: the definitions that the contracts cite.
pub mod Text
pub mod Tokens
pub mod Scan
pub mod Reading
pub mod Place
