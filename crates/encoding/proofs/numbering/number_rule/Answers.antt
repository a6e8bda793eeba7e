use Rattle.std.proofs.Common.{◌≡◌, ◌<◌, [], ◌∷◌, get_or, length, sym, refl, ap, ◌∙◌, subst, arith}
use Rattle.terms.specs.Items.{nodes_of, places_of}
use Rattle.std.proofs.lemmas.List.{length-append}
use Rattle.terms.specs.Terms.{any, terms}
use Rattle.terms.specs.Nodes.{Stands}
use Rattle.encoding.specs.Table.{Numbers}
use Rattle.encoding.proofs.Rules.{numbered_none, root_at, root_room, numbered_more, numbered_all_lem}
use Rattle.encoding.proofs.numbering.number_rule.Goals as goal

pub loop-root-init : goal.loop-root-init
loop-root-init c = rw (c.new-table.ensures, c.new-places.ensures.empty) (numbered_none c.args.rule.now, refl)

pub number_term-requires : goal.number_term-requires
number_term-requires c =
    let x = c.args.rule.now in
    let k = c.loop-root.root-index in
    let r = c.requires in
    let inside : k < length (places_of x.roots) = omega (arith, ap length c.as_slice-root-items.ensures.value) in
    let at = root_at x k inside r.0 r.1 in
    let here : get_or (places_of x.roots) k 0 ≡ get_or c.as_slice-root-items.result.now k 0 = ap (λ l. get_or l k 0) (sym c.as_slice-root-items.ensures.value) in
    record {
      there = subst (λ p. p < length (nodes_of x.nodes)) here at.0;
      room = (get_or (terms r.0) k (any 0), subst (λ p. Stands (nodes_of x.nodes) p (get_or (terms r.0) k (any 0))) here at.1, root_room x k inside c.loop-root.table (places_of c.loop-root.places) r.0 r.1 r.2 c.loop-root.invariant.0);
    }

pub loop-root-preserved : goal.loop-root-preserved
loop-root-preserved c =
    let x = c.args.rule.now in
    let k = c.loop-root.root-index in
    let inside : k < length (places_of x.roots) = omega (arith, ap length c.as_slice-root-items.ensures.value) in
    let now = subst (λ l. Numbers (nodes_of x.nodes) (get_or l k 0) c.loop-root.table c.number_term.new.table c.number_term.result) c.as_slice-root-items.ensures.value c.number_term.ensures in (
      rw c.push.ensures.items (numbered_more x k inside c.loop-root.table c.number_term.new.table c.number_term.result (places_of c.loop-root.places) c.loop-root.invariant.0 now),
      ap length c.push.ensures.items ∙ omega (arith, c.loop-root.invariant.1, length-append (places_of c.loop-root.places) (c.number_term.result ∷ [])),
    )

pub returns : goal.returns
returns c =
    record {
      table = λ r rep. sym (ap (λ p. p.0) (numbered_all_lem c.args.rule.now c.loop-root.root-index c.loop-root.table (places_of c.loop-root.places) r (omega (arith, ap length c.as_slice-root-items.ensures.value)) rep c.loop-root.invariant.0));
      places = λ r rep. sym (ap (λ p. p.1) (numbered_all_lem c.args.rule.now c.loop-root.root-index c.loop-root.table (places_of c.loop-root.places) r (omega (arith, ap length c.as_slice-root-items.ensures.value)) rep c.loop-root.invariant.0));
    }
