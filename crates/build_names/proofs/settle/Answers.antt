-- `build_names::settle` meets its contract: where the number is the low, the group begins at its place.
use Rattle.build_names.proofs.Taking.{take_fit}
use Rattle.build_names.proofs.settle.Goals as goal

pub take_group-requires : goal.take_group-requires
take_group-requires c = take_fit c.requires
