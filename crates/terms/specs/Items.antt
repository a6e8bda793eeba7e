-- The items of the lists in arrays.
use Rattle.std.specs.Prelude.{ℕ, List, take}
use Rattle.terms.specs.declared.node.Node.{Node}
use Rattle.terms.specs.declared.lists.NodeList.{NodeList}
use Rattle.terms.specs.declared.lists.RootList.{RootList}

abbrev pub nodes_of : NodeList → List Node
nodes_of l = take l.len l.nodes

abbrev pub places_of : RootList → List ℕ
places_of l = take l.count l.places
