-- `build_indexed::condensed` meets its contract: the children are laid out behind the places that the groups were found with.
use Rattle.build_indexed.proofs.Stored.{children_fit, condensed_found}
use Rattle.build_indexed.proofs.condensed.Goals as goal

pub children-c-requires : goal.children-c-requires
children-c-requires c = children_fit c.requires c.condense-k.ensures

pub returns : goal.returns
returns c = condensed_found c.requires c.condense-k.ensures c.children-c.ensures
