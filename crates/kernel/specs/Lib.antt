-- The kernel of the solver: the definitions that its contracts cite.
pub mod Trail
pub mod Scan
pub mod Arena
pub mod Looks
pub mod Resolve
pub mod Hints
pub mod Budget
