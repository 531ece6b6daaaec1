-- `ask_stacked::enter` meets its contract: the store is at the group's name, as it was read, and a stamp set is a mark set.
use Rattle.ask_walk.proofs.Stamped.{seen_set, under_set}
use Rattle.ask_stacked.proofs.enter.Goals as goal

pub returns : goal.returns
returns c =
    record {
      entered = record {
        marked = rw c.num-name.ensures.0 (seen_set _ c.args.marks.now _);
        from = c.num.ensures.0;
        to = c.num-2.ensures.0;
        small = c.num-2.ensures.1;
      };
      under_2 = under_set _ _ _ c.requires.under;
    }
