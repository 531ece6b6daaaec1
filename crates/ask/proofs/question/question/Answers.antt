-- `ask::question::question` meets its contract: the two vertices' names and places are read, and the answer between those places is the question's.
use native.Mathlib.Omega.{arith}
use mathlib.Core.Path.{sym, ap, ◌∙◌}
use Prim.Native.Nat.{ℕ}
use lib.ListN.{replicate}
use Rattle.sound_places.proofs.Vertices.{list_rises, list_low, name_listed, vertex_low, vertex_placed}
use Rattle.ask_walk.proofs.Stamped.{seen_new}
use Rattle.ask.proofs.Soundness.{marks_few, walk_is}
use Rattle.ask.proofs.question.question.Goals as goal

pub place_of-x-requires : goal.place_of-x-requires
place_of-x-requires c =
    let S = c.args.sections.now.in_triples.lent in record {
      width = S.width;
      k_in_bounds = (omega (arith, S.groups_long), S.groups_few);
      rises = list_rises S;
      by_index = list_low S;
      k_value = name_listed S c.requires.0 c.num.ensures.0;
    }

pub place_of-t-requires : goal.place_of-t-requires
place_of-t-requires c =
    let S = c.args.sections.now.in_triples.lent in record {
      width = S.width;
      k_in_bounds = (omega (arith, S.groups_long), S.groups_few);
      rises = list_rises S;
      by_index = list_low S;
      k_value = name_listed S c.requires.1.0 c.num-2.ensures.0;
    }

pub towards-requires : goal.towards-requires
towards-requires c = vertex_low c.args.sections.now.in_triples.lent c.requires.1.0 c.num-2.ensures.0 c.place_of-t.ensures

pub decide-requires : goal.decide-requires
decide-requires c =
    let Q = c.args.sections.now.in_triples in
    let W = c.towards.ensures in
    let long = c.requires.1.1.0 in
    let x_low = vertex_low Q.lent c.requires.0 c.num.ensures.0 c.place_of-x.ensures in record {
      marks_long = long ∙ sym W.marks;
      x_lt_k = (rw W.groups x_low, (marks_few Q c.args.marks.now long, (c.requires.1.1.1.0, rw (W.width, long) c.requires.1.1.1.1)));
    }

pub returns : goal.returns
returns c =
    let S = c.args.sections.now.in_triples.lent in
    let W = c.towards.ensures in record {
      marks_after = c.decide.ensures.marks_after
          ∙ walk_is c.args.sections.now W _ _ _ _
          (vertex_placed S c.requires.0 c.num.ensures.0 c.place_of-x.ensures)
          (vertex_placed S c.requires.1.0 c.num-2.ensures.0 c.place_of-t.ensures)
          (seen_new _ _ c.requires.1.1.1.0 ∙ ap (λ (z : ℕ). replicate z 0) c.requires.1.1.0);
      under = c.decide.ensures.under;
      marks_unchanged = c.decide.ensures.marks_unchanged;
      kept = rw (W.width, c.requires.1.1.0) at c.decide.ensures.kept;
    }
