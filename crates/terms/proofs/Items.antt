-- A list in an array: its items say which list it is, since every place behind them holds the blank.
use Rattle.std.proofs.Common.{◌≡◌, ℕ, ◌+◌, ◌-◌, ◌≤◌, ◌<◌, List, ◌++◌, length, take, drop, set, replicate, sym, ap, ◌∙◌, length-take-le, arith}
use Rattle.std.proofs.lemmas.List.{take-append-drop, drop-drop, drop-set-lt, drop-replicate}
use Rattle.std.proofs.Props.{props}
use mathlib.Core.HLevel.{is_prop→PathP}
use Rattle.terms.specs.declared.node.Node.TheVariants.{Any}
use Rattle.terms.specs.declared.lists.NodeList.{NodeList}
use Rattle.terms.specs.declared.lists.RootList.{RootList}
use Rattle.terms.specs.Items.{nodes_of, places_of}

-- what is added takes the place of the first blank
pub blanks_more : {X : Type 0} (capacity : ℕ) (blank : X) (len : ℕ) (cells : List X) (x : X) → len < capacity → drop len cells ≡ replicate (capacity - len) blank → drop (len + 1) (set cells len x) ≡ replicate (capacity - (len + 1)) blank
blanks_more capacity blank len cells x room blanks =
    drop-set-lt (len + 1) cells len x (omega arith)
    ∙ sym (drop-drop 1 len cells)
    ∙ ap (drop 1) blanks
    ∙ drop-replicate 1 (capacity - len) blank
    ∙ ap (λ n. replicate n blank) (omega arith)

-- and the items tell all the cells
pub cells_of : {X : Type 0} (capacity : ℕ) (blank : X) (len : ℕ) (cells : List X) → len ≤ length cells → drop len cells ≡ replicate (capacity - len) blank → take len cells ++ replicate (capacity - length (take len cells)) blank ≡ cells
cells_of capacity blank len cells fits blanks =
    ap (λ n. take len cells ++ replicate (capacity - n) blank) (length-take-le len cells fits)
    ∙ ap (λ ys. take len cells ++ ys) (sym blanks)
    ∙ take-append-drop len cells

-- a list of nodes
nodes_fit : (l : NodeList) → l.len ≤ length l.nodes
nodes_fit l = omega (arith, l.fits, l.size)

pub count_nodes : (l : NodeList) → length (nodes_of l) ≡ l.len
count_nodes l = length-take-le l.len l.nodes (nodes_fit l)

all_nodes : (l : NodeList) → nodes_of l ++ replicate (102 - length (nodes_of l)) (Any 0) ≡ l.nodes
all_nodes l = cells_of 102 (Any 0) l.len l.nodes (nodes_fit l) l.blank

pub same_nodes : (a b : NodeList) → nodes_of a ≡ nodes_of b → a ≡ b
same_nodes a b e =
    let count : a.len ≡ b.len = sym (count_nodes a) ∙ ap length e ∙ count_nodes b in
    let cells : a.nodes ≡ b.nodes = sym (all_nodes a) ∙ ap (λ l. l ++ replicate (102 - length l) (Any 0)) e ∙ all_nodes b in
    λ i. record {
      nodes = cells i;
      len = count i;
      fits = is_prop→PathP (λ j. count j ≤ 102) (λ j. hlevel props) a.fits b.fits i;
      size = is_prop→PathP (λ j. length (cells j) ≡ 102) (λ j. hlevel props) a.size b.size i;
      blank = is_prop→PathP (λ j. drop (count j) (cells j) ≡ replicate (102 - count j) (Any 0)) (λ j. hlevel props) a.blank b.blank i;
    }

-- a list of places
places_fit : (l : RootList) → l.count ≤ length l.places
places_fit l = omega (arith, l.fits, l.size)

count_places : (l : RootList) → length (places_of l) ≡ l.count
count_places l = length-take-le l.count l.places (places_fit l)

all_places : (l : RootList) → places_of l ++ replicate (6 - length (places_of l)) 0 ≡ l.places
all_places l = cells_of 6 0 l.count l.places (places_fit l) l.blank

pub same_places : (a b : RootList) → places_of a ≡ places_of b → a ≡ b
same_places a b e =
    let count : a.count ≡ b.count = sym (count_places a) ∙ ap length e ∙ count_places b in
    let cells : a.places ≡ b.places = sym (all_places a) ∙ ap (λ l. l ++ replicate (6 - length l) 0) e ∙ all_places b in
    λ i. record {
      places = cells i;
      count = count i;
      fits = is_prop→PathP (λ j. count j ≤ 6) (λ j. hlevel props) a.fits b.fits i;
      size = is_prop→PathP (λ j. length (cells j) ≡ 6) (λ j. hlevel props) a.size b.size i;
      blank = is_prop→PathP (λ j. drop (count j) (cells j) ≡ replicate (6 - count j) 0) (λ j. hlevel props) a.blank b.blank i;
    }
