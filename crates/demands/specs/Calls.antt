-- Demand 1: every call ends and answers, for all numbers, lists and bytes it may be lent; bad input gets one refusal by a fixed order of checks, and the contents
-- of every lent buffer after it are fixed.
use Rattle.std.specs.Prelude.{true, false, not, ◌↔◌, ◌≡◌, List, [], ◌∷◌, ◌++◌, ℕ, ◌<◌, length, get_or}
use seplogic.Ra.Ura.{Ura}
use base.Logic.{SProp, ent, emp}
use prog.Memory.{Memory}
use prog.Model.{Model}
use prog.Routine.{Routine}
use prog.Wired.{Code, Wired}
use mir.Syntax.{Callee}
use types.Logic.{Logic}
use contract.Lifetimes.{Lfts}
use contract.Monad.{Fun, fact}
use contract.Running.{Running}
use denote.Triple.Clauses.{Ended, AtExit, Clauses, closing}
use denote.Triple.Entry.{Args, Res}
use denote.Triple.Spec.{Meets}
use borrow.Fn.Kinds.{ParamKind, ResultKind, In, Out, Dens, res_t, ended_of}
use Rattle.lineage.specs.Graph.{Graph}
use Rattle.lineage.specs.Stored.{form2, form3, form4, form_of}
use Rattle.lineage.specs.Calls.{Check, check, refused, FormsTaken, host, ordinary, turned, hierarchy, takes, Input, turned_input, build_early, build_late, build_answer, build_call, form_checks, contents_check, open_answer, ask_early, ask_answer, list_early, list_late, list_answer}
use Rattle.build.specs.Input.{input_of}
use Rattle.build.proofs.build as building_call
use Rattle.build.proofs.build_hierarchy as build_hierarchy_call
use Rattle.build.proofs.Theorems as build
use Rattle.build.proofs.Hierarchy as plain
use Rattle.open.proofs.open as open_call
use Rattle.open.proofs.open_form1 as open_form1_call
use Rattle.open.proofs.Theorem as opening
use Rattle.ask.proofs.ask as ask_call
use Rattle.ask.proofs.ask_form1 as ask_form1_call
use Rattle.ask.proofs.Theorems as asking
use Rattle.ask_all.specs.Batch.{batch_late, batch_answer}
use Rattle.ask_all.proofs.ask_all as ask_all_call
use Rattle.ask_all.proofs.ask_all_form1 as ask_all_form1_call
use Rattle.ask_all.proofs.Theorems as asking_all
use Rattle.list.proofs.list as list_call
use Rattle.list.specs.Listed as listing
use Rattle.convert.specs.Convert.{convert_early, convert_late, convert_answer}
use Rattle.convert.specs.Converted as converting
use Rattle.convert.proofs.convert_up as convert_up_call
use Rattle.convert.proofs.convert_down as convert_down_call
use Rattle.hierarchy.specs.Turn.{turn_late, turn_answer}
use Rattle.hierarchy.specs.Turned as plain_turning
use Rattle.hierarchy.proofs.open_hierarchy as open_hierarchy_call
use Rattle.hierarchy.proofs.ask_hierarchy as ask_hierarchy_call
use Rattle.hierarchy.proofs.to_hierarchy as to_hierarchy_call
use Rattle.hierarchy.proofs.from_hierarchy as from_hierarchy_call
use Rattle.chain.specs.Traced.{chain_late, chain_answer}
use Rattle.chain.specs.Chained as chaining
use Rattle.chain.proofs.chain as chain_call
use Rattle.added.specs.declared.Added.{Added}
use Rattle.added.specs.Adding.{add_checks, add_answer}
use Rattle.added.specs.Asked.{added_late, added_answer}
use Rattle.added.specs.Allowed as adding
use Rattle.added.proofs.add as add_call
use Rattle.added.proofs.ask_added as ask_added_call
use Rattle.turned.proofs.build_turned as build_turned_call
use Rattle.turned.proofs.open_turned as open_turned_call
use Rattle.turned.proofs.ask_turned as ask_turned_call
use Rattle.turned.proofs.list_turned as list_turned_call
use Rattle.turned.proofs.Theorems as turning
use Rattle.rules_states.specs.Rules.{rules_checks, rules_answer}
use Rattle.rules.specs.Settled as settling
use Rattle.rules.proofs.settle_lists as settle_lists_call
use Rattle.exceptions.specs.Calls.{form_one_checks, exceptions_built, open_late, exceptions_opened, ask_late, exceptions_asked}
use Rattle.exceptions.specs.Calls as lists_calls
use Rattle.exceptions.proofs.build_exceptions as build_exceptions_call
use Rattle.exceptions.proofs.open_exceptions as open_exceptions_call
use Rattle.exceptions.proofs.ask_exceptions as ask_exceptions_call
use Rattle.exceptions.proofs.Building as lists_building
use Rattle.exceptions.proofs.Opening as lists_opening
use Rattle.exceptions.proofs.Asking as lists_asking
use Rattle.exceptions_all.specs.Batch.{all_late, all_exceptions}
use Rattle.exceptions_all.proofs.ask_all_exceptions as ask_all_exceptions_call
use Rattle.exceptions_all.proofs.Theorems as exceptions_asked_all
use Rattle.text_run.proofs.run as run_call
use Rattle.text_run.proofs.Theorems as run
use Rattle.build_orders.specs.Input.{graph_of}
use Rattle.matrix_lines.specs.Matrix.{matrix_reading, matrix_text}
use Rattle.matrix_lines.specs.Calls.{read_checks, matrix_read_answer, write_checks, matrix_write_answer}
use Rattle.matrix_read.specs.Answer as reading_matrix
use Rattle.matrix_read.proofs.read_matrix as read_matrix_call
use Rattle.matrix_write.specs.Written as writing_matrix
use Rattle.matrix_write.proofs.write_matrix as write_matrix_call

-- Of one call. `meets` is its theorem as the checker states it; `asked` and `learnt` are its contract as callers have it: what is asked of the arguments a, and what
-- is said of them, of the answer r and of the arguments e as they are left. `same`: the lent buffers are left alike. κs are the lifetimes of what is lent.
pub record Answers {n : ℕ} (ps : List (ParamKind n)) (res : ResultKind n) (meets : Type 1 → Type 2) (asked : In n ps) (learnt allowed : Out n ps res)
    (same : (κs : Lfts n) → AtExit (ended_of n ps res) κs → AtExit (ended_of n ps res) κs → Type 0)
    : Type 2 where
  -- it meets its contract: called with anything that it may be lent it is safe, ends, and answers and leaves what the contract says
  pub met : {M : Type 1} → meets M
  -- the contract asks nothing
  pub nothing_asked : (κs : Lfts n) (a : Dens κs ps) → asked κs a
  -- what it says is allowed
  pub allows : (κs : Lfts n) (a : Dens κs ps) (r : (res_t res κs).Denot) (e : AtExit (ended_of n ps res) κs) → learnt κs a r e → allowed κs a r e
  -- and one answer and one content of each lent buffer is
  pub once : (κs : Lfts n) (a : Dens κs ps) (r r' : (res_t res κs).Denot) (e e' : AtExit (ended_of n ps res) κs)
      → allowed κs a r e
      → allowed κs a r' e'
      → (r ≡ r') × same κs e e'

-- The same of one call in the logic's own words, as a proof by hand of a call has it: in every model of the logic, wherever the call's name leads to its code. `emp` is
-- what holds of nothing, and `fact` says a plain claim.
pub record AnswersByHand (T : Ended) (name : Callee) (code : Code)
    (contract : (M : Type 1) (𝓤 : Ura M) → (𝓛 : Logic 𝓤) → (Memory → SProp 𝓤) → (Routine → Fun 𝓤) → Clauses 𝓤 T)
    (allowed : (κs : Lfts T.signature.lifetimes) → Args T.signature κs → Res T.signature κs → AtExit T κs → Type 0)
    (same : (κs : Lfts T.signature.lifetimes) → AtExit T κs → AtExit T κs → Type 0)
    : Type 2 where
  pub met : {M : Type 1} {𝓤 : Ura M} (𝓛 : Logic 𝓤) (𝓜 : Model 𝓤 𝓛.H) (𝓡 : Running 𝓤 𝓛.H 𝓜) → Wired 𝓡.env code
      → Meets 𝓛 T.signature (𝓡.run (𝓡.env name)) (closing 𝓛 T (contract M 𝓤 𝓛 𝓜.mem 𝓡.returns))
  pub nothing_asked : {M : Type 1} {𝓤 : Ura M} (𝓛 : Logic 𝓤) (mem : Memory → SProp 𝓤) (run : Routine → Fun 𝓤)
      (κs : Lfts T.signature.lifetimes) (a : Args T.signature κs) (g : (contract M 𝓤 𝓛 mem run κs a).ghost)
      → ent 𝓤 (emp 𝓤) ((contract M 𝓤 𝓛 mem run κs a).requires g)
  pub allows : {M : Type 1} {𝓤 : Ura M} (𝓛 : Logic 𝓤) (mem : Memory → SProp 𝓤) (run : Routine → Fun 𝓤)
      (κs : Lfts T.signature.lifetimes) (a : Args T.signature κs) (g : (contract M 𝓤 𝓛 mem run κs a).ghost) (r : Res T.signature κs) (e : AtExit T κs)
      → ent 𝓤 ((contract M 𝓤 𝓛 mem run κs a).ensures g r e) (fact 𝓤 (allowed κs a r e))
  pub once : (κs : Lfts T.signature.lifetimes) (a : Args T.signature κs) (r r' : Res T.signature κs) (e e' : AtExit T κs)
      → allowed κs a r e
      → allowed κs a r' e'
      → (r ≡ r') × same κs e e'

-- the first of the checks that applies has this number and this extra number
pub record Refuses (cs : List Check) (number extra : ℕ) : Type 0 where
  pub at : ℕ
  pub within : at < length cs
  pub none_before : (i : ℕ) → i < at → (get_or cs i (check false 0 0)).applies ≡ false
  pub here : get_or cs at (check false 0 0) ≡ check true number extra

-- Of every call that Rattle code makes (Face has those that C makes): its arguments in the order of its parameters, the answer r, and the arguments as they are left; `now` is what a buffer holds.
pub record EveryCall : Type 2 where
  pub build : Answers building_call.Kinds.ps building_call.Kinds.r building_call.Statement.statement building_call.Reads.Asked building_call.Reads.Learnt
      (λ κs (form, (n, (sources, (targets, (orders, (d, (work, (out, _)))))))) r (_, (_, (_, (_, (_, (_, (work', (out', _)))))))).
      build.Allowed form (input_of n sources.now targets.now d orders.now) work.now out.now r work'.now out'.now)
      (λ κs (_, (_, (_, (_, (_, (_, (work, (out, _)))))))) (_, (_, (_, (_, (_, (_, (work', (out', _)))))))). (work.now ≡ work'.now) × (out.now ≡ out'.now))
  pub opens : Answers open_call.Kinds.ps open_call.Kinds.r open_call.Statement.statement open_call.Reads.Asked open_call.Reads.Learnt
      (λ κs (index, (marks, (work, _))) r (_, (marks', (work', _))). opening.Allowed ordinary index.now marks.now work.now r marks'.now work'.now)
      (λ κs (_, (marks, (work, _))) (_, (marks', (work', _))). (marks.now ≡ marks'.now) × (work.now ≡ work'.now))
  pub opens_form1 : Answers open_form1_call.Kinds.ps open_form1_call.Kinds.r open_form1_call.Statement.statement open_form1_call.Reads.Asked
      open_form1_call.Reads.Learnt
      (λ κs (index, (marks, _)) r (_, (marks', _)). opening.Allowed host index.now marks.now [] r marks'.now [])
      (λ κs (_, (marks, _)) (_, (marks', _)). marks.now ≡ marks'.now)
  pub ask : Answers ask_call.Kinds.ps ask_call.Kinds.r ask_call.Statement.statement ask_call.Reads.Asked ask_call.Reads.Learnt
      (λ κs (index, (source, (target, (marks, (work, _))))) r (_, (_, (_, (marks', (work', _))))).
      asking.Allowed ordinary index.now source target marks.now work.now r marks'.now work'.now)
      (λ κs (_, (_, (_, (marks, (work, _))))) (_, (_, (_, (marks', (work', _))))). (marks.now ≡ marks'.now) × (work.now ≡ work'.now))
  pub ask_form1 : Answers ask_form1_call.Kinds.ps ask_form1_call.Kinds.r ask_form1_call.Statement.statement ask_form1_call.Reads.Asked ask_form1_call.Reads.Learnt
      (λ κs (index, (source, (target, (marks, _)))) r (_, (_, (_, (marks', _)))). asking.Allowed host index.now source target marks.now [] r marks'.now [])
      (λ κs (_, (_, (_, (marks, _)))) (_, (_, (_, (marks', _)))). marks.now ≡ marks'.now)
  pub ask_all : Answers ask_all_call.Kinds.ps ask_all_call.Kinds.r ask_all_call.Statement.statement ask_all_call.Reads.Asked ask_all_call.Reads.Learnt
      (λ κs (index, (sources, (targets, (marks, (work, (answers, _)))))) r (_, (_, (_, (marks', (work', (answers', _)))))).
      asking_all.Allowed ordinary index.now sources.now targets.now marks.now work.now answers.now r marks'.now work'.now answers'.now)
      (λ κs (_, (_, (_, (marks, (work, (answers, _)))))) (_, (_, (_, (marks', (work', (answers', _)))))).
      (marks.now ≡ marks'.now) × ((work.now ≡ work'.now) × (answers.now ≡ answers'.now)))
  pub ask_all_form1 : Answers ask_all_form1_call.Kinds.ps ask_all_form1_call.Kinds.r ask_all_form1_call.Statement.statement ask_all_form1_call.Reads.Asked
      ask_all_form1_call.Reads.Learnt
      (λ κs (index, (sources, (targets, (marks, (answers, _))))) r (_, (_, (_, (marks', (answers', _))))).
      asking_all.Allowed host index.now sources.now targets.now marks.now [] answers.now r marks'.now [] answers'.now)
      (λ κs (_, (_, (_, (marks, (answers, _))))) (_, (_, (_, (marks', (answers', _))))). (marks.now ≡ marks'.now) × (answers.now ≡ answers'.now))
  pub list : Answers list_call.Kinds.ps list_call.Kinds.r list_call.Statement.statement list_call.Reads.Asked list_call.Reads.Learnt
      (λ κs (index, (vertex, (marks, (work, (out, _))))) r (_, (_, (marks', (work', (out', _))))).
      listing.Allowed ordinary index.now vertex marks.now work.now out.now r marks'.now work'.now out'.now)
      (λ κs (_, (_, (marks, (work, (out, _))))) (_, (_, (marks', (work', (out', _))))).
      (marks.now ≡ marks'.now) × ((work.now ≡ work'.now) × (out.now ≡ out'.now)))
  pub chain : Answers chain_call.Kinds.ps chain_call.Kinds.r chain_call.Statement.statement chain_call.Reads.Asked chain_call.Reads.Learnt
      (λ κs (index, (source, (target, (marks, (work, (steps, _)))))) r (_, (_, (_, (marks', (work', (steps', _)))))).
      chaining.Allowed ordinary index.now source target marks.now work.now steps.now r marks'.now work'.now steps'.now)
      (λ κs (_, (_, (_, (marks, (work, (steps, _)))))) (_, (_, (_, (marks', (work', (steps', _)))))).
      (marks.now ≡ marks'.now) × ((work.now ≡ work'.now) × (steps.now ≡ steps'.now)))
  -- adding an edge lends nothing: the state goes in and out by value
  pub add : Answers add_call.Kinds.ps add_call.Kinds.r add_call.Statement.statement add_call.Reads.Asked add_call.Reads.Learnt
      (λ κs (state, (n, (from, (to, _)))) r _. adding.Adds state n from to r)
      (λ κs _ _. Unit {0})
  pub ask_added : Answers ask_added_call.Kinds.ps ask_added_call.Kinds.r ask_added_call.Statement.statement ask_added_call.Reads.Asked ask_added_call.Reads.Learnt
      (λ κs (index, (state, (source, (target, (marks, (work, _)))))) r (_, (_, (_, (_, (marks', (work', _)))))).
      adding.Allowed ordinary index.now state source target marks.now work.now r marks'.now work'.now)
      (λ κs (_, (_, (_, (_, (marks, (work, _)))))) (_, (_, (_, (_, (marks', (work', _)))))). (marks.now ≡ marks'.now) × (work.now ≡ work'.now))
  -- the calls on a plain hierarchy
  pub build_hierarchy : Answers build_hierarchy_call.Kinds.ps build_hierarchy_call.Kinds.r build_hierarchy_call.Statement.statement build_hierarchy_call.Reads.Asked
      build_hierarchy_call.Reads.Learnt
      (λ κs (n, (sources, (targets, (orders, (d, (work, (out, _))))))) r (_, (_, (_, (_, (_, (work', (out', _))))))).
      plain.Allowed (input_of n sources.now targets.now d orders.now) work.now out.now r work'.now out'.now)
      (λ κs (_, (_, (_, (_, (_, (work, (out, _))))))) (_, (_, (_, (_, (_, (work', (out', _))))))). (work.now ≡ work'.now) × (out.now ≡ out'.now))
  pub opens_hierarchy : Answers open_hierarchy_call.Kinds.ps open_hierarchy_call.Kinds.r open_hierarchy_call.Statement.statement open_hierarchy_call.Reads.Asked
      open_hierarchy_call.Reads.Learnt
      (λ κs (index, (marks, (work, _))) r (_, (marks', (work', _))). opening.Allowed hierarchy index.now marks.now work.now r marks'.now work'.now)
      (λ κs (_, (marks, (work, _))) (_, (marks', (work', _))). (marks.now ≡ marks'.now) × (work.now ≡ work'.now))
  pub ask_hierarchy : Answers ask_hierarchy_call.Kinds.ps ask_hierarchy_call.Kinds.r ask_hierarchy_call.Statement.statement ask_hierarchy_call.Reads.Asked
      ask_hierarchy_call.Reads.Learnt
      (λ κs (index, (source, (target, (marks, (work, _))))) r (_, (_, (_, (marks', (work', _))))).
      asking.Allowed hierarchy index.now source target marks.now work.now r marks'.now work'.now)
      (λ κs (_, (_, (_, (marks, (work, _))))) (_, (_, (_, (marks', (work', _))))). (marks.now ≡ marks'.now) × (work.now ≡ work'.now))
  pub to_hierarchy : Answers to_hierarchy_call.Kinds.ps to_hierarchy_call.Kinds.r to_hierarchy_call.Statement.statement to_hierarchy_call.Reads.Asked
      to_hierarchy_call.Reads.Learnt
      (λ κs (index, (marks, (work, (out, _)))) r (_, (marks', (work', (out', _)))).
      plain_turning.Allowed 2 4 index.now marks.now work.now out.now r marks'.now work'.now out'.now)
      (λ κs (_, (marks, (work, (out, _)))) (_, (marks', (work', (out', _)))).
      (marks.now ≡ marks'.now) × ((work.now ≡ work'.now) × (out.now ≡ out'.now)))
  pub from_hierarchy : Answers from_hierarchy_call.Kinds.ps from_hierarchy_call.Kinds.r from_hierarchy_call.Statement.statement from_hierarchy_call.Reads.Asked
      from_hierarchy_call.Reads.Learnt
      (λ κs (index, (marks, (work, (out, _)))) r (_, (marks', (work', (out', _)))).
      plain_turning.Allowed 4 2 index.now marks.now work.now out.now r marks'.now work'.now out'.now)
      (λ κs (_, (marks, (work, (out, _)))) (_, (marks', (work', (out', _)))).
      (marks.now ≡ marks'.now) × ((work.now ≡ work'.now) × (out.now ≡ out'.now)))
  -- the calls on a turned index
  pub build_turned : Answers build_turned_call.Kinds.ps build_turned_call.Kinds.r build_turned_call.Statement.statement build_turned_call.Reads.Asked
      build_turned_call.Reads.Learnt
      (λ κs (n, (sources, (targets, (orders, (d, (work, (out, _))))))) r (_, (_, (_, (_, (_, (work', (out', _))))))).
      turning.Allowed (input_of n sources.now targets.now d orders.now) work.now out.now r work'.now out'.now)
      (λ κs (_, (_, (_, (_, (_, (work, (out, _))))))) (_, (_, (_, (_, (_, (work', (out', _))))))). (work.now ≡ work'.now) × (out.now ≡ out'.now))
  pub opens_turned : Answers open_turned_call.Kinds.ps open_turned_call.Kinds.r open_turned_call.Statement.statement open_turned_call.Reads.Asked
      open_turned_call.Reads.Learnt
      (λ κs (index, (marks, (work, _))) r (_, (marks', (work', _))). opening.Allowed turned index.now marks.now work.now r marks'.now work'.now)
      (λ κs (_, (marks, (work, _))) (_, (marks', (work', _))). (marks.now ≡ marks'.now) × (work.now ≡ work'.now))
  pub ask_turned : Answers ask_turned_call.Kinds.ps ask_turned_call.Kinds.r ask_turned_call.Statement.statement ask_turned_call.Reads.Asked
      ask_turned_call.Reads.Learnt
      (λ κs (index, (source, (target, (marks, (work, _))))) r (_, (_, (_, (marks', (work', _))))).
      asking.Allowed turned index.now source target marks.now work.now r marks'.now work'.now)
      (λ κs (_, (_, (_, (marks, (work, _))))) (_, (_, (_, (marks', (work', _))))). (marks.now ≡ marks'.now) × (work.now ≡ work'.now))
  pub list_turned : Answers list_turned_call.Kinds.ps list_turned_call.Kinds.r list_turned_call.Statement.statement list_turned_call.Reads.Asked
      list_turned_call.Reads.Learnt
      (λ κs (index, (vertex, (marks, (work, (out, _))))) r (_, (_, (marks', (work', (out', _))))).
      listing.Allowed turned index.now vertex marks.now work.now out.now r marks'.now work'.now out'.now)
      (λ κs (_, (_, (marks, (work, (out, _))))) (_, (_, (marks', (work', (out', _))))).
      (marks.now ≡ marks'.now) × ((work.now ≡ work'.now) × (out.now ≡ out'.now)))
  pub convert_up : Answers convert_up_call.Kinds.ps convert_up_call.Kinds.r convert_up_call.Statement.statement convert_up_call.Reads.Asked
      convert_up_call.Reads.Learnt
      (λ κs (index, (marks, (out, _))) r (_, (marks', (out', _))).
      converting.Allowed 1 2 index.now marks.now [] out.now r marks'.now [] out'.now)
      (λ κs (_, (marks, (out, _))) (_, (marks', (out', _))). (marks.now ≡ marks'.now) × (out.now ≡ out'.now))
  pub convert_down : Answers convert_down_call.Kinds.ps convert_down_call.Kinds.r convert_down_call.Statement.statement convert_down_call.Reads.Asked
      convert_down_call.Reads.Learnt
      (λ κs (index, (marks, (work, (out, _)))) r (_, (marks', (work', (out', _)))).
      converting.Allowed 2 1 index.now marks.now work.now out.now r marks'.now work'.now out'.now)
      (λ κs (_, (marks, (work, (out, _)))) (_, (marks', (work', (out', _)))).
      (marks.now ≡ marks'.now) × ((work.now ≡ work'.now) × (out.now ≡ out'.now)))
  -- the rule desk's call on parallel lists
  pub settle_lists : Answers settle_lists_call.Kinds.ps settle_lists_call.Kinds.r settle_lists_call.Statement.statement settle_lists_call.Reads.Asked
      settle_lists_call.Reads.Learnt
      (λ κs (index, (changed, (marks, (work, (vertices, (states, _)))))) r (_, (_, (marks', (work', (_, (states', _)))))).
      settling.Allowed ordinary index.now changed.now marks.now work.now vertices.now states.now r marks'.now work'.now states'.now)
      (λ κs (_, (_, (marks, (work, (_, (states, _)))))) (_, (_, (marks', (work', (_, (states', _)))))).
      (marks.now ≡ marks'.now) × ((work.now ≡ work'.now) × (states.now ≡ states'.now)))
  -- the calls on exception lists
  pub build_exceptions : Answers build_exceptions_call.Kinds.ps build_exceptions_call.Kinds.r build_exceptions_call.Statement.statement build_exceptions_call.Reads.Asked
      build_exceptions_call.Reads.Learnt
      (λ κs (index, (marks, (out, _))) r (_, (marks', (out', _))). lists_building.Allowed index.now marks.now out.now r marks'.now out'.now)
      (λ κs (_, (marks, (out, _))) (_, (marks', (out', _))). (marks.now ≡ marks'.now) × (out.now ≡ out'.now))
  pub opens_exceptions : Answers open_exceptions_call.Kinds.ps open_exceptions_call.Kinds.r open_exceptions_call.Statement.statement open_exceptions_call.Reads.Asked
      open_exceptions_call.Reads.Learnt
      (λ κs (index, (lists, (marks, _))) r (_, (_, (marks', _))). lists_opening.Allowed index.now lists.now marks.now r marks'.now)
      (λ κs (_, (_, (marks, _))) (_, (_, (marks', _))). marks.now ≡ marks'.now)
  pub ask_exceptions : Answers ask_exceptions_call.Kinds.ps ask_exceptions_call.Kinds.r ask_exceptions_call.Statement.statement ask_exceptions_call.Reads.Asked
      ask_exceptions_call.Reads.Learnt
      (λ κs (index, (lists, (source, (target, (marks, _))))) r (_, (_, (_, (_, (marks', _))))).
      lists_asking.Allowed index.now lists.now source target marks.now r marks'.now)
      (λ κs (_, (_, (_, (_, (marks, _))))) (_, (_, (_, (_, (marks', _))))). marks.now ≡ marks'.now)
  pub ask_all_exceptions : Answers ask_all_exceptions_call.Kinds.ps ask_all_exceptions_call.Kinds.r ask_all_exceptions_call.Statement.statement
      ask_all_exceptions_call.Reads.Asked ask_all_exceptions_call.Reads.Learnt
      (λ κs (index, (lists, (sources, (targets, (marks, (answers, _)))))) r (_, (_, (_, (_, (marks', (answers', _)))))).
      exceptions_asked_all.Allowed index.now lists.now sources.now targets.now marks.now answers.now r marks'.now answers'.now)
      (λ κs (_, (_, (_, (_, (marks, (answers, _)))))) (_, (_, (_, (_, (marks', (answers', _)))))). (marks.now ≡ marks'.now) × (answers.now ≡ answers'.now))
  -- the text program's run
  pub run : Answers run_call.Kinds.ps run_call.Kinds.r run_call.Statement.statement run_call.Reads.Asked run_call.Reads.Learnt
      (λ κs (text, (out, _)) r (_, (out', _)). run.Allowed text.now out.now r out'.now)
      (λ κs (_, (out, _)) (_, (out', _)). out.now ≡ out'.now)
  -- Matrix Market files
  pub read_matrix : Answers read_matrix_call.Kinds.ps read_matrix_call.Kinds.r read_matrix_call.Statement.statement read_matrix_call.Reads.Asked
      read_matrix_call.Reads.Learnt
      (λ κs (text, (sources, (targets, _))) r (_, (sources', (targets', _))).
      reading_matrix.Answered text.now sources.now targets.now r sources'.now targets'.now)
      (λ κs (_, (sources, (targets, _))) (_, (sources', (targets', _))). (sources.now ≡ sources'.now) × (targets.now ≡ targets'.now))
  pub write_matrix : Answers write_matrix_call.Kinds.ps write_matrix_call.Kinds.r write_matrix_call.Statement.statement write_matrix_call.Reads.Asked
      write_matrix_call.Reads.Learnt
      (λ κs (n, (sources, (targets, (out, _)))) r (_, (_, (_, (out', _)))). writing_matrix.Allowed (graph_of n sources.now targets.now) out.now r out'.now)
      (λ κs (_, (_, (_, (out, _)))) (_, (_, (_, (out', _)))). out.now ≡ out'.now)
  -- a refusal is given exactly when its check applies and none above it does
  pub build_refuses : (form : ℕ) (B : Input) (work out number extra : ℕ)
      → (build_call form B work out ≡ refused number extra)
      ↔ Refuses (check (not (takes ordinary form)) 11 form ∷ (build_early (form_of form) B work ++ build_late (form_of form) B out)) number extra
  pub build_turned_refuses : (B : Input) (work out number extra : ℕ)
      → (build_answer form3 (turned_input B) work out ≡ refused number extra)
      ↔ Refuses (build_early form3 (turned_input B) work ++ build_late form3 (turned_input B) out) number extra
  pub build_hierarchy_refuses : (B : Input) (work out number extra : ℕ)
      → (build_answer form4 B work out ≡ refused number extra) ↔ Refuses (build_early form4 B work ++ build_late form4 B out) number extra
  pub open_refuses : (T : FormsTaken) (b : List ℕ) (marks work number extra : ℕ)
      → (open_answer T b marks work ≡ refused number extra) ↔ Refuses (form_checks T b marks work ++ (contents_check b ∷ [])) number extra
  pub ask_refuses : (T : FormsTaken) (b : List ℕ) (u v marks work number extra : ℕ)
      → (ask_answer T b u v marks work ≡ refused number extra) ↔ Refuses (ask_early T b u v marks work ++ (contents_check b ∷ [])) number extra
  pub ask_all_refuses : (T : FormsTaken) (b sources targets : List ℕ) (marks work answers number extra : ℕ)
      → (batch_answer T b sources targets marks work answers ≡ refused number extra)
      ↔ Refuses (form_checks T b marks work ++ batch_late b sources targets answers) number extra
  pub list_refuses : (T : FormsTaken) (b : List ℕ) (u marks work out number extra : ℕ)
      → (list_answer T b u marks work out ≡ refused number extra) ↔ Refuses (list_early T b u marks work ++ list_late b u out) number extra
  pub convert_refuses : (from to : ℕ) (b : List ℕ) (marks work out number extra : ℕ)
      → (convert_answer from to b marks work out ≡ refused number extra) ↔ Refuses (convert_early from b marks work ++ convert_late to b out) number extra
  pub read_matrix_refuses : (text : List ℕ) (sources targets number extra : ℕ)
      → (matrix_read_answer form2 text sources targets ≡ refused number extra) ↔ Refuses (read_checks form2 (matrix_reading text) sources targets) number extra
  pub write_matrix_refuses : (G : Graph) (out number extra : ℕ)
      → (matrix_write_answer form2 G out ≡ refused number extra) ↔ Refuses (write_checks form2 G (matrix_text G) out) number extra
  pub turn_refuses : (from to : ℕ) (b : List ℕ) (marks work out number extra : ℕ)
      → (turn_answer from to b marks work out ≡ refused number extra) ↔ Refuses (convert_early from b marks work ++ turn_late to b out) number extra
  pub chain_refuses : (T : FormsTaken) (b : List ℕ) (u v marks work out number extra : ℕ)
      → (chain_answer T b u v marks work out ≡ refused number extra) ↔ Refuses (ask_early T b u v marks work ++ chain_late b u v out) number extra
  pub add_refuses : (count n from to number extra : ℕ) → (add_answer count n from to ≡ refused number extra) ↔ Refuses (add_checks count n from to) number extra
  pub ask_added_refuses : (T : FormsTaken) (b : List ℕ) (state : Added) (u v marks work number extra : ℕ)
      → (added_answer T b state u v marks work ≡ refused number extra) ↔ Refuses (ask_early T b u v marks work ++ added_late b state) number extra
  pub rules_refuses : (T : FormsTaken) (b changed : List ℕ) (marks work number extra : ℕ)
      → (rules_answer T b changed marks work ≡ refused number extra) ↔ Refuses (rules_checks T b changed marks work) number extra
  pub build_exceptions_refuses : (b : List ℕ) (marks out number extra : ℕ)
      → (exceptions_built b marks out ≡ refused number extra) ↔ Refuses (form_one_checks b marks ++ lists_calls.build_late b out) number extra
  pub open_exceptions_refuses : (b lists : List ℕ) (marks number extra : ℕ)
      → (exceptions_opened b lists marks ≡ refused number extra) ↔ Refuses (form_one_checks b marks ++ open_late b lists) number extra
  pub ask_exceptions_refuses : (b lists : List ℕ) (u v marks number extra : ℕ)
      → (exceptions_asked b lists u v marks ≡ refused number extra) ↔ Refuses (form_one_checks b marks ++ ask_late b lists u v) number extra
  pub ask_all_exceptions_refuses : (b lists sources targets : List ℕ) (marks answers number extra : ℕ)
      → (all_exceptions b lists sources targets marks answers ≡ refused number extra)
      ↔ Refuses (form_one_checks b marks ++ all_late b lists sources targets answers) number extra
