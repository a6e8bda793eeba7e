-- What the parts of the search promise.
pub mod Steps
pub mod Solving
