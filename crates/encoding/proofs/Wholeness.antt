-- The clauses of a rule are whole clauses, over variables below the net's next.
use Rattle.std.proofs.Common.{◌≡◌, ℕ, ◌<◌, true, List, [], ◌∷◌, get_or}
use Rattle.words.specs.Words.{bits}
use Rattle.words.proofs.Laws.{bits_pos}
use Rattle.clauses.specs.declared.literal.Literal.{Literal}
use Rattle.terms.specs.Limits.{ok_rule}
use Rattle.terms.specs.Terms.{Rule, terms}
use Rattle.circuit.specs.declared.gates.Bitwise.TheVariants.{Exclusive}
use Rattle.circuit.specs.Circuits.{bitwise_net}
use Rattle.circuit.specs.Meaning.{Whole}
use Rattle.circuit.specs.Nets.{Net, said}
use Rattle.circuit.proofs.WordMeaning.{bitwise_makes}
use Rattle.encoding.specs.declared.entry.Entry.{Entry}
use Rattle.encoding.specs.Encode.{stated_net, encode}
use Rattle.encoding.specs.Table.{numbered_all}
use Rattle.encoding.specs.Values.{WellMade}
use Rattle.encoding.proofs.AllTerms.{Operands}
use Rattle.encoding.proofs.Encoding.{table, net, table_made, places_operands, spelled, whole}
use Rattle.encoding.proofs.Stating.{AllSpelled, said_whole, said_spells}
use Rattle.encoding.proofs.TableNets.{bits_at}

module _ (w : ℕ) (pos : 0 < w) (t : List Entry) (made : WellMade w t) (ws : List (List Literal)) where
  stated_whole : (is : List ℕ) (n : Net) → Operands t is → Whole n → AllSpelled w pos t made ws n → Whole (stated_net ws is n)
  stated_whole [] n o h sp = h
  stated_whole (i ∷ []) n o h sp = h
  stated_whole (i ∷ j ∷ []) n o h sp =
      let d = bitwise_net Exclusive (get_or ws i []) (get_or ws j []) n in
      let mk = bitwise_makes Exclusive h (sp i o.0.0) (sp j o.1.0.0) in
      said_whole d.0 d.1 (mk.defines.whole h) mk.spells.below
  stated_whole (i ∷ j ∷ k ∷ is) n o h sp =
      let c = get_or ws i [] in
      let b = (sp i o.0.0).below in
      stated_whole (j ∷ k ∷ is) (said c n) o.1 (said_whole n c h b) (λ m l. said_spells n c h b (get_or ws m []) (bits_at w t made m) (sp m l))

pub encode_whole : (r : Rule) → ok_rule r ≡ true → Whole (encode r)
encode_whole r ok = stated_whole (bits r.width) (bits_pos r.width) (table r ok) (table_made r ok) (net r ok).1 (numbered_all (terms r) []).1 (net r ok).0 (places_operands r ok) (whole r ok) (spelled r ok).spells
