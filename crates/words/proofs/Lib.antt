-- Laws of words that hold at every width.
pub mod Laws
