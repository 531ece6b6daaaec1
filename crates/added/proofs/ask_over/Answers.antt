-- `added::ask_over` meets its contract: by the first bad edge that is found; where there is none all ends are vertices, and the rounds decide.
use Rattle.added.proofs.Refusals.{over_bad, over_low, over_says}
use Rattle.added.proofs.ask_over.Goals as goal

pub returns-in-Some-clause-result_value : goal.returns-in-Some-clause-result_value
returns-in-Some-clause-result_value c =
    let s = c.args in over_bad s.index.now.image.layout.n s.sources.now s.targets.now c.bad_edge.ensures _ c.in-Some.is

pub says_over-requires-clause-sources_len : goal.says_over-requires-clause-sources_len
says_over-requires-clause-sources_len c =
    let s = c.args in
    let paired = c.requires.sources_len.0 in
    (paired, over_low s.index.now.image.layout.n s.sources.now s.targets.now c.bad_edge.ensures c.in_default.is paired)

pub returns-clause-result_value : goal.returns-clause-result_value
returns-clause-result_value c =
    let s = c.args in over_says s.index.now.image.layout.n s.sources.now s.targets.now c.bad_edge.ensures c.in_default.is c.says_over.ensures.value
