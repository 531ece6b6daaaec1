-- `build_labelled::order_rows` meets its contract. The places that the first pass writes are an order of the places, so the other two can go through them; each writes behind
-- what the next one reads.
use Rattle.build_labelled.proofs.Ordered.{ranked_fits, roots_fit, turn_fits, ordered}
use Rattle.build_labelled.proofs.order_rows.Goals as goal

pub ranked-requires : goal.ranked-requires
ranked-requires c = ranked_fits c.requires

pub roots-q-requires : goal.roots-q-requires
roots-q-requires c = roots_fit c.requires c.ranked.ensures.kept c.ranked.ensures.upper_bound c.ranked.ensures.result_after

pub turn-requires : goal.turn-requires
turn-requires c =
    turn_fits c.requires c.ranked.ensures.kept c.ranked.ensures.upper_bound c.ranked.ensures.result_after c.roots-q.ensures.kept c.roots-q.ensures.upper_bound
    c.roots-q.ensures.result_after

pub returns : goal.returns
returns c =
    ordered c.requires c.ranked.ensures.kept c.ranked.ensures.upper_bound c.ranked.ensures.result_after c.roots-q.ensures.kept c.roots-q.ensures.upper_bound
    c.roots-q.ensures.result_after c.turn.ensures.kept c.turn.ensures.rows_at
