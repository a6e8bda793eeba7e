-- Words as lists of bits, the lowest first, and the circuits on them: each operation as gates do it. The name
-- of a circuit on bits ends in _bits; that of the same circuit on literals, which makes a net larger, in _net.
use Rattle.std.specs.Prelude.{ℕ, zero, suc, ◌+◌, ◌-◌, ◌*◌, ◌/◌, Bool, true, false, cond, not, ◌&&◌, ◌||◌, List, [], ◌∷◌, length, nat_lt, slice_index_or}
use Rattle.circuit.specs.declared.shifting.Direction.{Direction}
use Rattle.circuit.specs.declared.shifting.Direction.TheVariants.{Left, Right}
use Rattle.words.specs.Words.{odd, xor}
use Rattle.words.specs.declared.UnaryOp.{UnaryOp}
use Rattle.words.specs.declared.UnaryOp.TheVariants.{Not, Neg}
use Rattle.words.specs.declared.BinaryOp.{BinaryOp}
use Rattle.words.specs.declared.BinaryOp.TheVariants.{Add, Sub, Mul, Udiv, Urem, And, Or, Xor, Shl, Lshr, Ashr, Comp, Ult, Slt}

abbrev pub bit : Bool → ℕ
bit true = 1
bit false = 0

-- the number that a word is
abbrev pub val : List Bool → ℕ
val [] = 0
val (b ∷ bs) = bit b + 2 * val bs

-- the w lowest bits of a number
abbrev pub bits_of : ℕ → ℕ → List Bool
bits_of zero x = []
bits_of (suc w) x = odd x ∷ bits_of w (x / 2)

abbrev pub maj : Bool → Bool → Bool → Bool
maj true b c = b || c
maj false b c = b && c

-- bit by bit
abbrev pub not_bits : List Bool → List Bool
not_bits [] = []
not_bits (x ∷ xs) = not x ∷ not_bits xs

abbrev pub zip_bits : (Bool → Bool → Bool) → List Bool → List Bool → List Bool
zip_bits f [] ys = []
zip_bits f (x ∷ xs) [] = []
zip_bits f (x ∷ xs) (y ∷ ys) = f x y ∷ zip_bits f xs ys

-- a word whose bits are all b, as long as the given one
abbrev pub fill : {A : Type 0} → A → List A → List A
fill b [] = []
fill b (x ∷ xs) = b ∷ fill b xs

-- a word whose lowest bit is b, the others z
abbrev pub flag : {A : Type 0} → A → A → List A → List A
flag z b [] = []
flag z b (x ∷ xs) = b ∷ fill z xs

-- the sum by a ripple of carries, and the carry out
abbrev pub add_bits : List Bool → List Bool → Bool → List Bool
add_bits [] ys c = []
add_bits (x ∷ xs) [] c = []
add_bits (x ∷ xs) (y ∷ ys) c = xor (xor x y) c ∷ add_bits xs ys (maj x y c)

abbrev pub carry_bits : List Bool → List Bool → Bool → Bool
carry_bits [] ys c = c
carry_bits (x ∷ xs) [] c = c
carry_bits (x ∷ xs) (y ∷ ys) c = carry_bits xs ys (maj x y c)

abbrev pub sub_bits : List Bool → List Bool → List Bool
sub_bits xs ys = add_bits xs (not_bits ys) true

abbrev pub neg_bits : List Bool → List Bool
neg_bits xs = sub_bits (fill false xs) xs

-- below: the chain of borrows
abbrev pub ult_bits : List Bool → List Bool → Bool
ult_bits xs ys = not (carry_bits xs (not_bits ys) true)

-- the word xs with the top bit of ys
abbrev pub topped : {A : Type 0} → List A → List A → List A
topped [] ys = []
topped (x ∷ xs) [] = []
topped (x ∷ []) (y ∷ ys) = y ∷ []
topped (x ∷ x' ∷ xs) (y ∷ ys) = x ∷ topped (x' ∷ xs) ys

-- as two's complement: without sign once the top bits are exchanged
abbrev pub slt_bits : List Bool → List Bool → Bool
slt_bits xs ys = ult_bits (topped xs ys) (topped ys xs)

abbrev pub equal_bits : List Bool → List Bool → Bool → Bool
equal_bits [] ys c = c
equal_bits (x ∷ xs) [] c = c
equal_bits (x ∷ xs) (y ∷ ys) c = equal_bits xs ys (c && not (xor x y))

abbrev pub any_bits : List Bool → Bool → Bool
any_bits [] c = c
any_bits (x ∷ xs) c = any_bits xs (c || x)

abbrev pub ite_bits : List Bool → List Bool → List Bool → List Bool
ite_bits ts xs ys = zip_bits (cond (any_bits ts false)) xs ys

-- all but the top bit of a word that isn't empty, and its top bit; b is its lowest bit
abbrev pub lower : {A : Type 0} → A → List A → List A
lower b [] = []
lower b (x ∷ xs) = b ∷ lower x xs

abbrev pub top : {A : Type 0} → A → List A → A
top b [] = b
top b (x ∷ xs) = top x xs

-- The product by rows, from the row of the highest bit down: a row is the word ys if its bit of xs is 1,
-- and to it is added what the rows above give, which lies one place higher.
abbrev pub mul_bits : List Bool → List Bool → List Bool
mul_bits [] ys = []
mul_bits (x ∷ xs) [] = []
mul_bits (x ∷ xs) (y ∷ ys) = (x && y) ∷ add_bits (zip_bits (λ a b. x && a) ys ys) (mul_bits xs (lower y ys)) false

-- the carries out of the rows, the lowest row first
abbrev pub carries_bits : List Bool → List Bool → List Bool
carries_bits [] ys = []
carries_bits (x ∷ xs) [] = []
carries_bits (x ∷ xs) (y ∷ ys) = carry_bits (zip_bits (λ a b. x && a) ys ys) (mul_bits xs (lower y ys)) false ∷ carries_bits xs (lower y ys)

-- no bit of xs meets a bit of ys at a place that the product's word doesn't have
abbrev pub none_bits : Bool → List Bool → Bool
none_bits b [] = true
none_bits b (x ∷ xs) = not (x && b) && none_bits b xs

abbrev pub apart_bits : List Bool → List Bool → Bool
apart_bits [] ys = true
apart_bits (x ∷ xs) [] = true
apart_bits (x ∷ xs) (y ∷ ys) = none_bits (top y ys) xs && apart_bits xs (lower y ys)

abbrev pub all_bits : List Bool → Bool
all_bits [] = true
all_bits (x ∷ xs) = x && all_bits xs

-- the divider's test: qs times ys, without a bit lost, and rs are xs; rs is below ys, or ys is 0 and qs all ones
abbrev pub divides_bits : List Bool → List Bool → List Bool → List Bool → Bool
divides_bits xs ys qs rs = all_bits (not_bits (carries_bits ys qs)) && (apart_bits ys qs && (not (carry_bits (mul_bits ys qs) rs false) && (equal_bits (add_bits (mul_bits ys qs) rs false) xs true && cond (any_bits ys false) (ult_bits rs ys) (all_bits qs))))

-- a word moved by k places, with b where no bit comes from
abbrev pub up_one : {A : Type 0} → A → ℕ → List A → ℕ → A
up_one b k xs i = cond (nat_lt i k) b (slice_index_or xs (i - k) b)

abbrev pub down_one : {A : Type 0} → A → ℕ → List A → ℕ → A
down_one b k xs i = slice_index_or xs (i + k) b

abbrev pub table : {A : Type 0} → (ℕ → A) → ℕ → ℕ → List A
table f zero i = []
table f (suc n) i = f i ∷ table f n (suc i)

-- to the left, or to the right
abbrev pub moved : {A : Type 0} → Direction → A → ℕ → List A → List A
moved Left b k xs = table (up_one b k xs) (length xs) 0
moved Right b k xs = table (down_one b k xs) (length xs) 0

-- A barrel: a stage for each bit of the count whose place k is below the width n; a 1 among the other
-- bits shifts everything out.
abbrev pub shift_bits : Direction → Bool → ℕ → ℕ → List Bool → List Bool → List Bool
shift_bits direction b n k xs [] = xs
shift_bits direction b n k xs (c ∷ cs) = cond (nat_lt k n) (shift_bits direction b n (k + k) (zip_bits (cond c) (moved direction b k xs) xs) cs) (zip_bits (cond (any_bits (c ∷ cs) false)) (fill b xs) xs)

abbrev pub top_of : {A : Type 0} → A → List A → A
top_of z [] = z
top_of z (x ∷ xs) = top x xs

-- an operation as its circuit; quotient and remainder have none: their words are chosen so that the divider's test holds
abbrev pub unary_bits : UnaryOp → List Bool → List Bool
unary_bits Not xs = not_bits xs
unary_bits Neg xs = neg_bits xs

abbrev pub binary_bits : BinaryOp → List Bool → List Bool → List Bool
binary_bits Add xs ys = add_bits xs ys false
binary_bits Sub xs ys = sub_bits xs ys
binary_bits Mul xs ys = mul_bits xs ys
binary_bits Udiv xs ys = fill false xs
binary_bits Urem xs ys = fill false xs
binary_bits And xs ys = zip_bits ◌&&◌ xs ys
binary_bits Or xs ys = zip_bits ◌||◌ xs ys
binary_bits Xor xs ys = zip_bits xor xs ys
binary_bits Shl xs ys = shift_bits Left false (length xs) 1 xs ys
binary_bits Lshr xs ys = shift_bits Right false (length xs) 1 xs ys
binary_bits Ashr xs ys = shift_bits Right (top_of false xs) (length xs) 1 xs ys
binary_bits Comp xs ys = flag false (equal_bits xs ys true) xs
binary_bits Ult xs ys = flag false (ult_bits xs ys) xs
binary_bits Slt xs ys = flag false (slt_bits xs ys) xs

-- the operations whose words are chosen
abbrev pub divides : BinaryOp → Bool
divides Add = false
divides Sub = false
divides Mul = false
divides Udiv = true
divides Urem = true
divides And = false
divides Or = false
divides Xor = false
divides Shl = false
divides Lshr = false
divides Ashr = false
divides Comp = false
divides Ult = false
divides Slt = false
