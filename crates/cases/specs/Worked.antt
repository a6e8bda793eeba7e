-- Worked cases of the definitions, in one table.
use Rattle.std.specs.Prelude.{◌≡◌, [], ◌∷◌, codes}
use Rattle.words.specs.declared.Width.TheVariants.{W8}
use Rattle.words.specs.declared.UnaryOp.TheVariants.{Neg}
use Rattle.words.specs.declared.BinaryOp.TheVariants.{Add, Sub, Udiv, Urem, Ashr, Slt}
use Rattle.words.specs.Words.{do1, do2}
use Rattle.terms.specs.Terms.{any, binary, Rule, Holds}
use Rattle.book.specs.Text.{Book}

-- (x + y) - y is x
abbrev pub sum_less : Rule
sum_less = record { width = W8; needs = []; from = binary Sub (binary Add (any 0) (any 1)) (any 1); to = any 0 }

-- the operations at their edges, at 8 bits; a rule that holds, and its text
pub record Worked : Type 0 where
  pub quotient_by_0 : do2 8 Udiv 5 0 ≡ 255
  pub remainder_by_0 : do2 8 Urem 5 0 ≡ 5
  pub sign_shifted : do2 8 Ashr 0x90 3 ≡ 0xf2
  pub sign_shifted_far : do2 8 Ashr 0x90 200 ≡ 255
  pub least_below_largest : do2 8 Slt 0x80 0x7f ≡ 1
  pub minus_0 : do1 8 Neg 0 ≡ 0
  pub holds : Holds sum_less
  pub written : Book (codes "rule 8 0 bvsub bvadd any 0 any 1 any 1 any 0") (sum_less ∷ [])
