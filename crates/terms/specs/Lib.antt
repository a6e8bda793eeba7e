-- Terms and rules: the definitions that the contracts cite.
pub mod Terms
pub mod Limits
pub mod Usable
pub mod Items
pub mod Nodes
pub mod Represents
pub mod Measures
pub mod Accepted
pub mod Values
