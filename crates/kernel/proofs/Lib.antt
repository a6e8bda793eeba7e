-- Lemmas over plain lists, behind the answers of each function.
pub mod Truth
pub mod Zeros
pub mod Ranks
pub mod Trails
pub mod Scans
pub mod Looking
pub mod Arenas
pub mod Storing
pub mod Loading
pub mod Swapping
pub mod Marking
pub mod Absorbing
pub mod Covering
pub mod Blaming
pub mod Hinting
pub mod Budgets
