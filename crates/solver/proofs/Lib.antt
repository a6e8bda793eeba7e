-- Lemmas behind the answers of the search.
pub mod Turning
pub mod Solutions
