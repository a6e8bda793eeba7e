-- The words of a table's entries as bits, and when a table is well made.
use Rattle.std.specs.Prelude.{◌≡◌, ℕ, ◌+◌, ◌*◌, ◌^◌, ◌<◌, Bool, true, false, List, [], ◌∷◌, ◌++◌, length, take, drop, slice_index_or}
use Rattle.words.specs.Words.{do2}
use Rattle.words.specs.declared.BinaryOp.TheVariants.{Udiv, Urem}
use Rattle.circuit.specs.Bits.{val, bits_of, mul_bits, ite_bits, unary_bits, binary_bits, divides}
use Rattle.encoding.specs.declared.entry.DivisionWord.{DivisionWord}
use Rattle.encoding.specs.declared.entry.DivisionWord.TheVariants.{Quotient, Remainder, Product, Other}
use Rattle.encoding.specs.declared.entry.Entry.{Entry}
use Rattle.encoding.specs.declared.entry.Entry.TheVariants.{Any, Con, Number, Unary, Binary, Ite, Divide, Part}

-- the bits of quotient, remainder, and the product of divisor and quotient
abbrev pub quotient_bits : ℕ → List Bool → List Bool → List Bool
quotient_bits w xs ys = bits_of w (do2 w Udiv (val xs) (val ys))

abbrev pub remainder_bits : ℕ → List Bool → List Bool → List Bool
remainder_bits w xs ys = bits_of w (do2 w Urem (val xs) (val ys))

abbrev pub divide_bits : ℕ → List Bool → List Bool → List Bool
divide_bits w xs ys = quotient_bits w xs ys ++ (remainder_bits w xs ys ++ mul_bits ys (quotient_bits w xs ys))

-- the place of a word among the three of its division; after them come the numbers that name none
abbrev pub order : DivisionWord → ℕ
order Quotient = 0
order Remainder = 1
order Product = 2
order (Other p) = 3 + p

-- an entry's word, from the words of the names and of the entries before it
abbrev pub entry_bits : ℕ → (ℕ → List Bool) → List (List Bool) → Entry → List Bool
entry_bits w env vs (Any k) = env k
entry_bits w env vs (Con k) = env (16 + k)
entry_bits w env vs (Number x) = bits_of w x
entry_bits w env vs (Unary o i) = unary_bits o (slice_index_or vs i [])
entry_bits w env vs (Binary o i j) = binary_bits o (slice_index_or vs i []) (slice_index_or vs j [])
entry_bits w env vs (Ite h i j) = ite_bits (slice_index_or vs h []) (slice_index_or vs i []) (slice_index_or vs j [])
entry_bits w env vs (Divide i j) = divide_bits w (slice_index_or vs i []) (slice_index_or vs j [])
entry_bits w env vs (Part k p) = take w (drop (order p * w) (slice_index_or vs k []))

abbrev pub table_bits : ℕ → (ℕ → List Bool) → List Entry → List (List Bool) → List (List Bool)
table_bits w env [] vs = vs
table_bits w env (e ∷ es) vs = table_bits w env es (vs ++ (entry_bits w env vs e ∷ []))

-- a division has three words
abbrev pub is_division : Entry → Bool
is_division (Any k) = false
is_division (Con k) = false
is_division (Number x) = false
is_division (Unary o i) = false
is_division (Binary o i j) = false
is_division (Ite h i j) = false
is_division (Divide i j) = true
is_division (Part k p) = false

-- entry i of a table is there before place n, and has one word
abbrev pub Operand : List Entry → ℕ → ℕ → Type 0
Operand t n i = (i < n) × (is_division (slice_index_or t i (Any 0)) ≡ false)

-- entry e may stand at place n of a table: it is made of entries before it
abbrev pub MadeAt : ℕ → List Entry → ℕ → Entry → Type 0
MadeAt w t n (Any k) = k < 16
MadeAt w t n (Con k) = k < 16
MadeAt w t n (Number x) = x < 2 ^ w
MadeAt w t n (Unary o i) = Operand t n i
MadeAt w t n (Binary o i j) = (divides o ≡ false) × Operand t n i × Operand t n j
MadeAt w t n (Ite h i j) = Operand t n h × Operand t n i × Operand t n j
MadeAt w t n (Divide i j) = Operand t n i × Operand t n j
MadeAt w t n (Part k p) = (k < n) × (order p < 3) × (is_division (slice_index_or t k (Any 0)) ≡ true)

abbrev pub WellMade : ℕ → List Entry → Type 0
WellMade w t = (i : ℕ) → i < length t → MadeAt w t i (slice_index_or t i (Any 0))
