-- `ask::sections::Sections::towards` meets its contract: the sections are fit for the walk towards every group.
use Rattle.ask.proofs.Soundness.{fit}
use Rattle.ask.proofs.sections.Sections.towards.Goals as goal

pub invariant_of-result : goal.invariant_of-result
invariant_of-result c = record { fit = fit c.args.self.now.in_triples _ c.requires }
