-- Each operation's circuit computes the operation on words, and keeps the width.
use Rattle.std.proofs.Common.{◌≡◌, ◌+◌, ◌*◌, ◌%◌, ◌^◌, ◌<◌, Bool, true, false, cond, ◌&&◌, ◌||◌, eqb, List, [], ◌∷◌, length, sym, refl, ap, ◌∙◌, ap₂, add-zero, arith}
use Rattle.circuit.specs.declared.shifting.Direction.TheVariants.{Left, Right}
use mathlib.Core.Bool.{false≢true}
use Rattle.words.specs.Words.{pick, bitwise, xor, do1, do2}
use Rattle.words.specs.declared.UnaryOp.{UnaryOp}
use Rattle.words.specs.declared.UnaryOp.TheVariants.{Not, Neg}
use Rattle.words.specs.declared.BinaryOp.{BinaryOp}
use Rattle.words.specs.declared.BinaryOp.TheVariants.{Add, Sub, Mul, Udiv, Urem, And, Or, Xor, Shl, Lshr, Ashr, Comp, Ult, Slt}
use Rattle.circuit.specs.Bits.{bit, val, zip_bits, flag, any_bits, equal_bits, ult_bits, slt_bits, top_of, ite_bits, unary_bits, binary_bits, divides}
use Rattle.circuit.proofs.Numbers.{odd_digit, half_digit, length_fill, length_not, val_not}
use Rattle.circuit.proofs.Adder.{length_add, add_right, length_sub, sub_right, length_neg, neg_right}
use Rattle.circuit.proofs.Comparisons.{ult_right, slt_right, cond_any, length_zip, zip_cond, length_flag, val_flag}
use Rattle.circuit.proofs.Products.{length_mul, mul_right}
use Rattle.circuit.proofs.Shifts.{length_shift, shl_right, lshr_right, ashr_right}
pub use Rattle.circuit.proofs.Comparisons.{equal_right, any_right}

pub length_unary : (o : UnaryOp) (xs : List Bool) → length (unary_bits o xs) ≡ length xs
length_unary Not xs = length_not xs
length_unary Neg xs = length_neg xs

pub length_binary : (o : BinaryOp) (xs ys : List Bool) → length xs ≡ length ys → length (binary_bits o xs ys) ≡ length xs
length_binary Add xs ys e = length_add xs ys false e
length_binary Sub xs ys e = length_sub xs ys e
length_binary Mul xs ys e = length_mul xs ys e
length_binary Udiv xs ys e = length_fill false xs
length_binary Urem xs ys e = length_fill false xs
length_binary And xs ys e = length_zip ◌&&◌ xs ys e
length_binary Or xs ys e = length_zip ◌||◌ xs ys e
length_binary Xor xs ys e = length_zip xor xs ys e
length_binary Shl xs ys e = length_shift Left false xs ys
length_binary Lshr xs ys e = length_shift Right false xs ys
length_binary Ashr xs ys e = length_shift Right (top_of false xs) xs ys
length_binary Comp xs ys e = length_flag false (equal_bits xs ys true) xs
length_binary Ult xs ys e = length_flag false (ult_bits xs ys) xs
length_binary Slt xs ys e = length_flag false (slt_bits xs ys) xs

pub length_ite : (ts xs ys : List Bool) → length xs ≡ length ys → length (ite_bits ts xs ys) ≡ length xs
length_ite ts xs ys e = length_zip (cond (any_bits ts false)) xs ys e

pub unary_right : (o : UnaryOp) (xs : List Bool) → val (unary_bits o xs) ≡ do1 (length xs) o (val xs)
unary_right Not xs = omega (arith, val_not xs)
unary_right Neg xs = neg_right xs

-- bit by bit
bit_pick : (b : Bool) → bit b ≡ pick b 1 0
bit_pick true = refl
bit_pick false = refl

zip_right : (f : Bool → Bool → Bool) (xs ys : List Bool) → length xs ≡ length ys → val (zip_bits f xs ys) ≡ bitwise f (length xs) (val xs) (val ys)
zip_right f [] ys e = refl
zip_right f (x ∷ xs) [] e = absurd (omega (arith, e))
zip_right f (x ∷ xs) (y ∷ ys) e =
    ap₂ (λ a b. a + 2 * b)
    (bit_pick (f x y) ∙ ap₂ (λ a b. pick (f a b) 1 0) (sym (odd_digit x (val xs))) (sym (odd_digit y (val ys))))
    (zip_right f xs ys (omega (arith, e)) ∙ ap₂ (bitwise f (length xs)) (sym (half_digit x (val xs))) (sym (half_digit y (val ys))))

-- a test as a word
flag_right : (b t : Bool) (xs : List Bool) → 0 < length xs → b ≡ t → val (flag false b xs) ≡ pick t 1 0
flag_right b t xs h e = val_flag b xs h ∙ (ap bit e ∙ bit_pick t)

pub binary_right : (o : BinaryOp) (xs ys : List Bool) → length xs ≡ length ys → 0 < length xs → divides o ≡ false
    → val (binary_bits o xs ys) ≡ do2 (length xs) o (val xs) (val ys)
binary_right Add xs ys e h d = add_right xs ys false e ∙ ap (λ n. n % 2 ^ length xs) (add-zero (val xs + val ys))
binary_right Sub xs ys e h d = sub_right xs ys e
binary_right Mul xs ys e h d = mul_right xs ys e
binary_right Udiv xs ys e h d = absurd (false≢true (sym d))
binary_right Urem xs ys e h d = absurd (false≢true (sym d))
binary_right And xs ys e h d = zip_right ◌&&◌ xs ys e
binary_right Or xs ys e h d = zip_right ◌||◌ xs ys e
binary_right Xor xs ys e h d = zip_right xor xs ys e
binary_right Shl xs ys e h d = shl_right xs ys
binary_right Lshr xs ys e h d = lshr_right xs ys
binary_right Ashr xs ys e h d = ashr_right xs ys
binary_right Comp xs ys e h d = flag_right (equal_bits xs ys true) _ xs h (equal_right xs ys e)
binary_right Ult xs ys e h d = flag_right (ult_bits xs ys) _ xs h (ult_right xs ys e)
binary_right Slt xs ys e h d = flag_right (slt_bits xs ys) _ xs h (slt_right xs ys e h)

pub ite_right : (ts xs ys : List Bool) → length xs ≡ length ys → val (ite_bits ts xs ys) ≡ pick (eqb (val ts) 0) (val ys) (val xs)
ite_right ts xs ys e = ap val (zip_cond (any_bits ts false) xs ys e) ∙ (val_cond (any_bits ts false) ∙ cond_any ts (val xs) (val ys))
  where
    val_cond : (t : Bool) → val (cond t xs ys) ≡ cond t (val xs) (val ys)
    val_cond true = refl
    val_cond false = refl
