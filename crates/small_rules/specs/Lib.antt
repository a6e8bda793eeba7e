-- Trying all values of a rule's names: the definitions that the contracts cite.
pub mod Odometer
pub mod Marks
pub mod Verdicts
