-- The load of a table, which bounds its clauses and variables.
use Rattle.std.specs.Prelude.{ℕ, ◌+◌, ◌*◌, List, [], ◌∷◌}
use Rattle.terms.specs.Terms.{load2}
use Rattle.encoding.specs.declared.entry.Entry.{Entry}
use Rattle.encoding.specs.declared.entry.Entry.TheVariants.{Any, Con, Number, Unary, Binary, Ite, Divide, Part}

abbrev pub entry_load : ℕ → Entry → ℕ
entry_load w (Any k) = 0
entry_load w (Con k) = 0
entry_load w (Number x) = 0
entry_load w (Unary o i) = 16 * w
entry_load w (Binary o i j) = load2 w o
entry_load w (Ite h i j) = 16 * w
entry_load w (Divide i j) = 32 * (w * w)
entry_load w (Part k p) = 0

abbrev pub table_load : ℕ → List Entry → ℕ
table_load w [] = 0
table_load w (e ∷ es) = entry_load w e + table_load w es
