-- Bits, nets and circuits: the definitions that the contracts cite.
pub mod Bits
pub mod Nets
pub mod Gates
pub mod Circuits
pub mod Parts
pub mod Built
pub mod Meaning
pub mod Sizes
