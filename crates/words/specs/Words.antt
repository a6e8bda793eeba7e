-- Words of w bits as numbers below 2 ^ w, with the operations of SMT-LIB's theory of bit vectors of
-- fixed size. Two things differ from SMT-LIB: a comparison gives the word 1 or 0, and an ite tests a
-- word against 0.
use Rattle.std.specs.Prelude.{◌≡◌, ◌≢◌, ℕ, zero, suc, ◌+◌, ◌-◌, ◌*◌, ◌/◌, ◌%◌, ◌^◌, Bool, true, false, not, ◌&&◌, ◌||◌, ◌==◌, nat_lt, Result, MatchResult}
use Rattle.words.specs.declared.UnaryOp.{UnaryOp}
use Rattle.words.specs.declared.UnaryOp.TheVariants.{Not, Neg}
use Rattle.words.specs.declared.BinaryOp.{BinaryOp}
use Rattle.words.specs.declared.BinaryOp.TheVariants.{Add, Sub, Mul, Udiv, Urem, And, Or, Xor, Shl, Lshr, Ashr, Comp, Ult, Slt}
use Rattle.words.specs.declared.NoWidth.{NoWidth}
use Rattle.words.specs.declared.Width.{Width}
use Rattle.words.specs.declared.Width.TheVariants.{W8, W16, W32, W64}

abbrev pub bits : Width → ℕ
bits W8 = 8
bits W16 = 16
bits W32 = 32
bits W64 = 64

-- the result is the width of so many bits, or no width has so many
abbrev pub IsWidthOf : ℕ → Result Width NoWidth → Type 0
IsWidthOf n r = MatchResult r (λ v. bits v ≡ n) (λ e. (e.0 ≡ n) × ((v : Width) → bits v ≢ n))

abbrev pub pick : {A : Type 0} → Bool → A → A → A
pick true a b = a
pick false a b = b

abbrev pub odd : ℕ → Bool
odd x = x % 2 == 1

-- a bit operation on the lowest n bits
abbrev pub bitwise : (Bool → Bool → Bool) → ℕ → ℕ → ℕ → ℕ
bitwise f zero x y = 0
bitwise f (suc n) x y = pick (f (odd x) (odd y)) 1 0 + 2 * bitwise f n (x / 2) (y / 2)

abbrev pub top : ℕ → ℕ → Bool
top w x = odd (x / 2 ^ (w - 1))

abbrev pub xor : Bool → Bool → Bool
xor true b = not b
xor false b = b

abbrev pub do1 : ℕ → UnaryOp → ℕ → ℕ
do1 w Not x = 2 ^ w - 1 - x
do1 w Neg x = (2 ^ w - x) % 2 ^ w

-- a word read as two's complement, moved up by 2 ^ (w - 1) so that it is not negative
abbrev pub moved : ℕ → ℕ → ℕ
moved w x = (x + 2 ^ (w - 1)) % 2 ^ w

abbrev pub do2 : ℕ → BinaryOp → ℕ → ℕ → ℕ
do2 w Add x y = (x + y) % 2 ^ w
do2 w Sub x y = (x + 2 ^ w - y) % 2 ^ w
do2 w Mul x y = x * y % 2 ^ w
do2 w Udiv x y = pick (y == 0) (2 ^ w - 1) (x / y)
do2 w Urem x y = pick (y == 0) x (x % y)
do2 w And x y = bitwise ◌&&◌ w x y
do2 w Or x y = bitwise ◌||◌ w x y
do2 w Xor x y = bitwise xor w x y
do2 w Shl x y = pick (nat_lt y w) (x * 2 ^ y % 2 ^ w) 0
do2 w Lshr x y = pick (nat_lt y w) (x / 2 ^ y) 0
do2 w Ashr x y = pick (top w x) (pick (nat_lt y w) (2 ^ w - 1 - (2 ^ w - 1 - x) / 2 ^ y) (2 ^ w - 1)) (pick (nat_lt y w) (x / 2 ^ y) 0)
do2 w Comp x y = pick (x == y) 1 0
do2 w Ult x y = pick (nat_lt x y) 1 0
do2 w Slt x y = pick (nat_lt (moved w x) (moved w y)) 1 0
