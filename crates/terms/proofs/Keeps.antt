-- That each node of a rule may stand where it does.
use Rattle.std.proofs.Common.{◌≡◌, ℕ, ◌<◌, ◌≤◌, true, List, length, get_or, take, ap, arith}
use Rattle.std.proofs.lemmas.List.{length-take-le}
use Rattle.terms.specs.declared.node.Node.{Node}
use Rattle.terms.specs.declared.node.Node.TheVariants.{Any}
use Rattle.terms.specs.Nodes.{sound, AllSound}

-- a node of a rule, after those before it
pub sound_at : (w v : ℕ) (ns ms : List Node) {X : Type 0} (xs : List X) (i : ℕ) → v ≡ w → ms ≡ ns → i < length ms → i ≤ length xs → AllSound w ns → sound v (length (take i xs)) (get_or ms i (Any 0)) ≡ true
sound_at w v ns ms xs i e f lt le all = rw (e, f, length-take-le i xs le) (all i (omega (arith, ap length f)))
