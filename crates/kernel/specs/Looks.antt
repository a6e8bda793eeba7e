-- What a clause says under the values.
use Rattle.std.specs.Prelude.{ℕ, List}
use Rattle.kernel.specs.declared.look.Look.{Look}
use Rattle.kernel.specs.declared.look.Look.TheVariants.{Open, Unit, Conflict}
use Rattle.kernel.specs.Trail.{Clash, Forced}

abbrev pub Looks : List ℕ → List ℕ → Look → Type 0
Looks ws values Open = Prim.Unit {0}
Looks ws values (Unit x) = Forced ws values x.0
Looks ws values Conflict = Clash ws values
