-- Demand 1 of the calls that C makes: every one ends and answers, for all numbers, lists and bytes that it may be lent, with one answer and one content of every lent
-- buffer. What each refuses, and when, is what the call that it hands on refuses (`EveryCall`), read off the refusal's number by the laws `..-read` of the face's crates.
use Rattle.std.specs.Prelude.{◌≡◌}
use Rattle.lineage.specs.Stored.{form3, form4}
use Rattle.lineage.specs.Calls.{ordinary, turned, hierarchy, turned_input}
use Rattle.build_orders.specs.Input.{graph_of}
use Rattle.build.specs.Input.{input_of}
use Rattle.text_run.proofs.Theorems as run
use Rattle.rules_table.specs.Table as table
use Rattle.rules_table.specs.contracts.drobisten_settle_rules as settle_rules_contract
use Rattle.rules_table.proofs.drobisten_settle_rules as settle_rules_call
use Rattle.face.proofs.drobisten_open as open_call
use Rattle.face.proofs.drobisten_ask as ask_call
use Rattle.face.proofs.drobisten_ask_all as ask_all_call
use Rattle.face_ask.proofs.drobisten_inspect as inspect_call
use Rattle.face_ask.proofs.drobisten_inspect_turned as inspect_turned_call
use Rattle.face_ask.proofs.drobisten_question as question_call
use Rattle.face_ask.proofs.drobisten_question_turned as question_turned_call
use Rattle.face_ask.proofs.drobisten_batch as batch_call
use Rattle.face_ask.proofs.drobisten_convert_up as convert_up_call
use Rattle.face_ask.proofs.drobisten_convert_down as convert_down_call
use Rattle.face_list.proofs.drobisten_list as list_call
use Rattle.face_list.proofs.drobisten_list_turned as list_turned_call
use Rattle.face_list.proofs.drobisten_chain as chain_call
use Rattle.face_build.proofs.drobisten_build as building_call
use Rattle.face_build.proofs.drobisten_build_turned as build_turned_call
use Rattle.face_build.proofs.drobisten_run as run_call
use Rattle.face_beside.proofs.drobisten_add as add_call
use Rattle.face_beside.proofs.drobisten_ask_added as ask_added_call
use Rattle.face_beside.proofs.drobisten_settle_lists as settle_lists_call
use Rattle.face_matrix.proofs.drobisten_read_matrix as read_matrix_call
use Rattle.face_matrix.proofs.drobisten_write_matrix as write_matrix_call
use Rattle.face_exceptions.proofs.drobisten_build_exceptions as build_exceptions_call
use Rattle.face_exceptions.proofs.drobisten_open_exceptions as open_exceptions_call
use Rattle.face_exceptions.proofs.drobisten_ask_exceptions as ask_exceptions_call
use Rattle.face_exceptions.proofs.drobisten_ask_all_exceptions as ask_all_exceptions_call
use Rattle.face_hierarchy.proofs.drobisten_build_hierarchy as build_hierarchy_call
use Rattle.face_hierarchy.proofs.drobisten_inspect_hierarchy as inspect_hierarchy_call
use Rattle.face_hierarchy.proofs.drobisten_question_hierarchy as question_hierarchy_call
use Rattle.face_hierarchy.proofs.drobisten_to_hierarchy as to_hierarchy_call
use Rattle.face_hierarchy.proofs.drobisten_from_hierarchy as from_hierarchy_call
use Rattle.face.proofs.Theorems as host
use Rattle.face_ask.proofs.Theorems as asking
use Rattle.face_list.proofs.Theorems as listing
use Rattle.face_build.proofs.Theorems as building
use Rattle.face_beside.proofs.Theorems as beside
use Rattle.face_matrix.proofs.Theorems as matrix
use Rattle.face_hierarchy.proofs.Theorems as plain
use Rattle.face_exceptions.proofs.Theorems as exceptions
use Rattle.demands.specs.Calls.{Answers, AnswersByHand}

pub record EveryExport : Type 2 where
  -- the host's, on form 1
  pub opens : Answers open_call.Kinds.ps open_call.Kinds.r open_call.Statement.statement open_call.Reads.Asked open_call.Reads.Learnt
      (λ κs (index, (marks, _)) r (_, (marks', _)). host.Opens index.now marks.now r marks'.now)
      (λ κs (_, (marks, _)) (_, (marks', _)). marks.now ≡ marks'.now)
  pub asks : Answers ask_call.Kinds.ps ask_call.Kinds.r ask_call.Statement.statement ask_call.Reads.Asked ask_call.Reads.Learnt
      (λ κs (index, (marks, (source, (target, _)))) r (_, (marks', _)). host.Asks index.now source target marks.now r marks'.now)
      (λ κs (_, (marks, _)) (_, (marks', _)). marks.now ≡ marks'.now)
  pub asks_all : Answers ask_all_call.Kinds.ps ask_all_call.Kinds.r ask_all_call.Statement.statement ask_all_call.Reads.Asked ask_all_call.Reads.Learnt
      (λ κs (index, (marks, (sources, (targets, (answers, _))))) r (_, (marks', (_, (_, (answers', _))))).
      host.AsksAll index.now sources.now targets.now marks.now answers.now r marks'.now answers'.now)
      (λ κs (_, (marks, (_, (_, (answers, _))))) (_, (marks', (_, (_, (answers', _))))). (marks.now ≡ marks'.now) × (answers.now ≡ answers'.now))
  -- on an index of form 1 or 2, and on a turned one
  pub inspects : Answers inspect_call.Kinds.ps inspect_call.Kinds.r inspect_call.Statement.statement inspect_call.Reads.Asked inspect_call.Reads.Learnt
      (λ κs (index, (marks, (work, _))) r (_, (marks', (work', _))). asking.Inspects ordinary index.now marks.now work.now r marks'.now work'.now)
      (λ κs (_, (marks, (work, _))) (_, (marks', (work', _))). (marks.now ≡ marks'.now) × (work.now ≡ work'.now))
  pub inspects_turned : Answers inspect_turned_call.Kinds.ps inspect_turned_call.Kinds.r inspect_turned_call.Statement.statement inspect_turned_call.Reads.Asked
      inspect_turned_call.Reads.Learnt
      (λ κs (index, (marks, (work, _))) r (_, (marks', (work', _))). asking.Inspects turned index.now marks.now work.now r marks'.now work'.now)
      (λ κs (_, (marks, (work, _))) (_, (marks', (work', _))). (marks.now ≡ marks'.now) × (work.now ≡ work'.now))
  pub questions : Answers question_call.Kinds.ps question_call.Kinds.r question_call.Statement.statement question_call.Reads.Asked question_call.Reads.Learnt
      (λ κs (index, (marks, (work, (source, (target, _))))) r (_, (marks', (work', _))).
      asking.Questions ordinary index.now source target marks.now work.now r marks'.now work'.now)
      (λ κs (_, (marks, (work, _))) (_, (marks', (work', _))). (marks.now ≡ marks'.now) × (work.now ≡ work'.now))
  pub questions_turned : Answers question_turned_call.Kinds.ps question_turned_call.Kinds.r question_turned_call.Statement.statement question_turned_call.Reads.Asked
      question_turned_call.Reads.Learnt
      (λ κs (index, (marks, (work, (source, (target, _))))) r (_, (marks', (work', _))).
      asking.Questions turned index.now source target marks.now work.now r marks'.now work'.now)
      (λ κs (_, (marks, (work, _))) (_, (marks', (work', _))). (marks.now ≡ marks'.now) × (work.now ≡ work'.now))
  pub batches : Answers batch_call.Kinds.ps batch_call.Kinds.r batch_call.Statement.statement batch_call.Reads.Asked batch_call.Reads.Learnt
      (λ κs (index, (marks, (work, (sources, (targets, (answers, _)))))) r (_, (marks', (work', (_, (_, (answers', _)))))).
      asking.Batches ordinary index.now sources.now targets.now marks.now work.now answers.now r marks'.now work'.now answers'.now)
      (λ κs (_, (marks, (work, (_, (_, (answers, _)))))) (_, (marks', (work', (_, (_, (answers', _)))))).
      (marks.now ≡ marks'.now) × ((work.now ≡ work'.now) × (answers.now ≡ answers'.now)))
  pub lists : Answers list_call.Kinds.ps list_call.Kinds.r list_call.Statement.statement list_call.Reads.Asked list_call.Reads.Learnt
      (λ κs (index, (marks, (work, (out, (vertex, _))))) r (_, (marks', (work', (out', _)))).
      listing.Lists ordinary index.now vertex marks.now work.now out.now r marks'.now work'.now out'.now)
      (λ κs (_, (marks, (work, (out, _)))) (_, (marks', (work', (out', _)))). (marks.now ≡ marks'.now) × ((work.now ≡ work'.now) × (out.now ≡ out'.now)))
  pub lists_turned : Answers list_turned_call.Kinds.ps list_turned_call.Kinds.r list_turned_call.Statement.statement list_turned_call.Reads.Asked
      list_turned_call.Reads.Learnt
      (λ κs (index, (marks, (work, (out, (vertex, _))))) r (_, (marks', (work', (out', _)))).
      listing.Lists turned index.now vertex marks.now work.now out.now r marks'.now work'.now out'.now)
      (λ κs (_, (marks, (work, (out, _)))) (_, (marks', (work', (out', _)))). (marks.now ≡ marks'.now) × ((work.now ≡ work'.now) × (out.now ≡ out'.now)))
  pub chains : Answers chain_call.Kinds.ps chain_call.Kinds.r chain_call.Statement.statement chain_call.Reads.Asked chain_call.Reads.Learnt
      (λ κs (index, (marks, (work, (steps, (source, (target, _)))))) r (_, (marks', (work', (steps', _)))).
      listing.Chains ordinary index.now source target marks.now work.now steps.now r marks'.now work'.now steps'.now)
      (λ κs (_, (marks, (work, (steps, _)))) (_, (marks', (work', (steps', _)))). (marks.now ≡ marks'.now) × ((work.now ≡ work'.now) × (steps.now ≡ steps'.now)))
  -- those that make bytes
  pub builds : Answers building_call.Kinds.ps building_call.Kinds.r building_call.Statement.statement building_call.Reads.Asked building_call.Reads.Learnt
      (λ κs (sources, (targets, (orders, (work, (out, (form, (n, (d, _)))))))) r (_, (_, (_, (work', (out', _))))).
      building.Builds form (input_of n sources.now targets.now d orders.now) work.now out.now r work'.now out'.now)
      (λ κs (_, (_, (_, (work, (out, _))))) (_, (_, (_, (work', (out', _))))). (work.now ≡ work'.now) × (out.now ≡ out'.now))
  pub builds_turned : Answers build_turned_call.Kinds.ps build_turned_call.Kinds.r build_turned_call.Statement.statement build_turned_call.Reads.Asked
      build_turned_call.Reads.Learnt
      (λ κs (sources, (targets, (orders, (work, (out, (n, (d, _))))))) r (_, (_, (_, (work', (out', _))))).
      building.BuildsForm form3 (turned_input (input_of n sources.now targets.now d orders.now)) work.now out.now r work'.now out'.now)
      (λ κs (_, (_, (_, (work, (out, _))))) (_, (_, (_, (work', (out', _))))). (work.now ≡ work'.now) × (out.now ≡ out'.now))
  pub converts_up : Answers convert_up_call.Kinds.ps convert_up_call.Kinds.r convert_up_call.Statement.statement convert_up_call.Reads.Asked
      convert_up_call.Reads.Learnt
      (λ κs (index, (marks, (out, _))) r (_, (marks', (out', _))). asking.ConvertsUp index.now marks.now out.now r marks'.now out'.now)
      (λ κs (_, (marks, (out, _))) (_, (marks', (out', _))). (marks.now ≡ marks'.now) × (out.now ≡ out'.now))
  pub converts_down : Answers convert_down_call.Kinds.ps convert_down_call.Kinds.r convert_down_call.Statement.statement convert_down_call.Reads.Asked
      convert_down_call.Reads.Learnt
      (λ κs (index, (marks, (work, (out, _)))) r (_, (marks', (work', (out', _)))).
      asking.ConvertsDown index.now marks.now work.now out.now r marks'.now work'.now out'.now)
      (λ κs (_, (marks, (work, (out, _)))) (_, (marks', (work', (out', _)))). (marks.now ≡ marks'.now) × ((work.now ≡ work'.now) × (out.now ≡ out'.now)))
  pub runs : Answers run_call.Kinds.ps run_call.Kinds.r run_call.Statement.statement run_call.Reads.Asked run_call.Reads.Learnt
      (λ κs (text, (out, _)) r (_, (out', _)). run.Allowed text.now out.now r out'.now)
      (λ κs (_, (out, _)) (_, (out', _)). out.now ≡ out'.now)
  -- those on what is kept beside an index
  pub adds : Answers add_call.Kinds.ps add_call.Kinds.r add_call.Statement.statement add_call.Reads.Asked add_call.Reads.Learnt
      (λ κs (state, (n, (from, (to, _)))) r _. beside.Adds state n from to r)
      (λ κs _ _. Unit {0})
  pub asks_added : Answers ask_added_call.Kinds.ps ask_added_call.Kinds.r ask_added_call.Statement.statement ask_added_call.Reads.Asked ask_added_call.Reads.Learnt
      (λ κs (index, (marks, (work, (state, (source, (target, _)))))) r (_, (marks', (work', _))).
      beside.AsksAdded ordinary index.now state source target marks.now work.now r marks'.now work'.now)
      (λ κs (_, (marks, (work, _))) (_, (marks', (work', _))). (marks.now ≡ marks'.now) × (work.now ≡ work'.now))
  pub settles_lists : Answers settle_lists_call.Kinds.ps settle_lists_call.Kinds.r settle_lists_call.Statement.statement settle_lists_call.Reads.Asked
      settle_lists_call.Reads.Learnt
      (λ κs (index, (changed, (marks, (work, (vertices, (states, _)))))) r (_, (_, (marks', (work', (_, (states', _)))))).
      beside.SettlesLists ordinary index.now changed.now marks.now work.now vertices.now states.now r marks'.now work'.now states'.now)
      (λ κs (_, (_, (marks, (work, (_, (states, _)))))) (_, (_, (marks', (work', (_, (states', _)))))).
      (marks.now ≡ marks'.now) × ((work.now ≡ work'.now) × (states.now ≡ states'.now)))
  -- Matrix Market files
  pub reads_matrix : Answers read_matrix_call.Kinds.ps read_matrix_call.Kinds.r read_matrix_call.Statement.statement read_matrix_call.Reads.Asked
      read_matrix_call.Reads.Learnt
      (λ κs (text, (sources, (targets, _))) r (_, (sources', (targets', _))). matrix.Reads text.now sources.now targets.now r sources'.now targets'.now)
      (λ κs (_, (sources, (targets, _))) (_, (sources', (targets', _))). (sources.now ≡ sources'.now) × (targets.now ≡ targets'.now))
  pub writes_matrix : Answers write_matrix_call.Kinds.ps write_matrix_call.Kinds.r write_matrix_call.Statement.statement write_matrix_call.Reads.Asked
      write_matrix_call.Reads.Learnt
      (λ κs (sources, (targets, (out, (n, _)))) r (_, (_, (out', _))). matrix.Writes (graph_of n sources.now targets.now) out.now r out'.now)
      (λ κs (_, (_, (out, _))) (_, (_, (out', _))). out.now ≡ out'.now)
  -- exception lists
  pub builds_exceptions : Answers build_exceptions_call.Kinds.ps build_exceptions_call.Kinds.r build_exceptions_call.Statement.statement build_exceptions_call.Reads.Asked
      build_exceptions_call.Reads.Learnt
      (λ κs (index, (marks, (out, _))) r (_, (marks', (out', _))). exceptions.BuildsLists index.now marks.now out.now r marks'.now out'.now)
      (λ κs (_, (marks, (out, _))) (_, (marks', (out', _))). (marks.now ≡ marks'.now) × (out.now ≡ out'.now))
  pub opens_exceptions : Answers open_exceptions_call.Kinds.ps open_exceptions_call.Kinds.r open_exceptions_call.Statement.statement open_exceptions_call.Reads.Asked
      open_exceptions_call.Reads.Learnt
      (λ κs (index, (lists, (marks, _))) r (_, (_, (marks', _))). exceptions.OpensLists index.now lists.now marks.now r marks'.now)
      (λ κs (_, (_, (marks, _))) (_, (_, (marks', _))). marks.now ≡ marks'.now)
  pub asks_exceptions : Answers ask_exceptions_call.Kinds.ps ask_exceptions_call.Kinds.r ask_exceptions_call.Statement.statement ask_exceptions_call.Reads.Asked
      ask_exceptions_call.Reads.Learnt
      (λ κs (index, (lists, (marks, (source, (target, _))))) r (_, (_, (marks', _))). exceptions.AsksLists index.now lists.now source target marks.now r marks'.now)
      (λ κs (_, (_, (marks, _))) (_, (_, (marks', _))). marks.now ≡ marks'.now)
  pub asks_all_exceptions : Answers ask_all_exceptions_call.Kinds.ps ask_all_exceptions_call.Kinds.r ask_all_exceptions_call.Statement.statement
      ask_all_exceptions_call.Reads.Asked ask_all_exceptions_call.Reads.Learnt
      (λ κs (index, (lists, (marks, (sources, (targets, (answers, _)))))) r (_, (_, (marks', (_, (_, (answers', _)))))).
      exceptions.AsksAllLists index.now lists.now sources.now targets.now marks.now answers.now r marks'.now answers'.now)
      (λ κs (_, (_, (marks, (_, (_, (answers, _)))))) (_, (_, (marks', (_, (_, (answers', _)))))). (marks.now ≡ marks'.now) × (answers.now ≡ answers'.now))
  -- the index of a plain hierarchy
  pub builds_hierarchy : Answers build_hierarchy_call.Kinds.ps build_hierarchy_call.Kinds.r build_hierarchy_call.Statement.statement build_hierarchy_call.Reads.Asked
      build_hierarchy_call.Reads.Learnt
      (λ κs (sources, (targets, (orders, (work, (out, (n, (d, _))))))) r (_, (_, (_, (work', (out', _))))).
      building.BuildsForm form4 (input_of n sources.now targets.now d orders.now) work.now out.now r work'.now out'.now)
      (λ κs (_, (_, (_, (work, (out, _))))) (_, (_, (_, (work', (out', _))))). (work.now ≡ work'.now) × (out.now ≡ out'.now))
  pub inspects_hierarchy : Answers inspect_hierarchy_call.Kinds.ps inspect_hierarchy_call.Kinds.r inspect_hierarchy_call.Statement.statement
      inspect_hierarchy_call.Reads.Asked inspect_hierarchy_call.Reads.Learnt
      (λ κs (index, (marks, (work, _))) r (_, (marks', (work', _))). asking.Inspects hierarchy index.now marks.now work.now r marks'.now work'.now)
      (λ κs (_, (marks, (work, _))) (_, (marks', (work', _))). (marks.now ≡ marks'.now) × (work.now ≡ work'.now))
  pub questions_hierarchy : Answers question_hierarchy_call.Kinds.ps question_hierarchy_call.Kinds.r question_hierarchy_call.Statement.statement
      question_hierarchy_call.Reads.Asked question_hierarchy_call.Reads.Learnt
      (λ κs (index, (marks, (work, (source, (target, _))))) r (_, (marks', (work', _))).
      asking.Questions hierarchy index.now source target marks.now work.now r marks'.now work'.now)
      (λ κs (_, (marks, (work, _))) (_, (marks', (work', _))). (marks.now ≡ marks'.now) × (work.now ≡ work'.now))
  pub turns_to_hierarchy : Answers to_hierarchy_call.Kinds.ps to_hierarchy_call.Kinds.r to_hierarchy_call.Statement.statement to_hierarchy_call.Reads.Asked
      to_hierarchy_call.Reads.Learnt
      (λ κs (index, (marks, (work, (out, _)))) r (_, (marks', (work', (out', _)))).
      plain.Turns 2 4 index.now marks.now work.now out.now r marks'.now work'.now out'.now)
      (λ κs (_, (marks, (work, (out, _)))) (_, (marks', (work', (out', _)))). (marks.now ≡ marks'.now) × ((work.now ≡ work'.now) × (out.now ≡ out'.now)))
  pub turns_from_hierarchy : Answers from_hierarchy_call.Kinds.ps from_hierarchy_call.Kinds.r from_hierarchy_call.Statement.statement from_hierarchy_call.Reads.Asked
      from_hierarchy_call.Reads.Learnt
      (λ κs (index, (marks, (work, (out, _)))) r (_, (marks', (work', (out', _)))).
      plain.Turns 4 2 index.now marks.now work.now out.now r marks'.now work'.now out'.now)
      (λ κs (_, (marks, (work, (out, _)))) (_, (marks', (work', (out', _)))). (marks.now ≡ marks'.now) × ((work.now ≡ work'.now) × (out.now ≡ out'.now)))
  -- over the rule desk's own records, a slice of structs: as of every other call, and in the logic's own words
  pub settles_records : Answers settle_rules_call.Kinds.ps settle_rules_call.Kinds.r settle_rules_call.Statement.statement settle_rules_call.Reads.Asked
      settle_rules_call.Reads.Learnt
      (λ κs (index, (changed, (marks, (work, (rules, _))))) r (_, (_, (marks', (work', (rules', _))))).
      table.Allowed ordinary index.now changed.now marks.now work.now rules.now r marks'.now work'.now rules'.now)
      (λ κs (_, (_, (marks, (work, (rules, _))))) (_, (_, (marks', (work', (rules', _))))).
      (marks.now ≡ marks'.now) × ((work.now ≡ work'.now) × (rules.now ≡ rules'.now)))
  pub settles_rules : AnswersByHand settle_rules_contract.ended settle_rules_call.Symbol.name settle_rules_call.Symbol.code (λ M 𝓤 𝓛. settle_rules_contract.clauses 𝓛)
      (λ κs (index, (changed, (marks, (work, (rules, _))))) r (_, (_, (marks', (work', (rules', _))))).
      table.Allowed ordinary index.now changed.now marks.now work.now rules.now r marks'.now work'.now rules'.now)
      (λ κs (_, (_, (marks, (work, (rules, _))))) (_, (_, (marks', (work', (rules', _))))).
      (marks.now ≡ marks'.now) × ((work.now ≡ work'.now) × (rules.now ≡ rules'.now)))
