-- The three demands on the calls, proved. specs/ says what each is; what follows is the laws of this crate and of those below, cited.
use mathlib.Core.Path.{sym}
use Rattle.lineage.specs.Calls.{build_answer, build_call, open_answer, ask_answer, list_answer}
use Rattle.build.proofs.build as building_call
use Rattle.build.proofs.build_hierarchy as build_hierarchy_call
use Rattle.build.proofs.Theorems.{built_once, build_finishes}
use Rattle.build.proofs.Hierarchy.{hierarchy_once, hierarchy_finishes, finished_hierarchy}
use Rattle.open.proofs.open as open_call
use Rattle.open.proofs.open_form1 as open_form1_call
use Rattle.open.proofs.Theorem.{opened_once}
use Rattle.ask.proofs.ask as ask_call
use Rattle.ask.proofs.ask_form1 as ask_form1_call
use Rattle.ask.proofs.Theorems.{asked_once}
use Rattle.ask_all.specs.Batch.{batch_answer}
use Rattle.ask_all.proofs.ask_all as ask_all_call
use Rattle.ask_all.proofs.ask_all_form1 as ask_all_form1_call
use Rattle.ask_all.proofs.Theorems.{batch_once}
use Rattle.list.proofs.list as list_call
use Rattle.list.proofs.Theorems.{listed_once}
use Rattle.convert.specs.Convert.{convert_answer}
use Rattle.convert.proofs.convert_up as convert_up_call
use Rattle.convert.proofs.convert_down as convert_down_call
use Rattle.convert.proofs.Finished.{converted_once}
use Rattle.hierarchy.specs.Turn.{turn_answer}
use Rattle.hierarchy.proofs.open_hierarchy as open_hierarchy_call
use Rattle.hierarchy.proofs.ask_hierarchy as ask_hierarchy_call
use Rattle.hierarchy.proofs.to_hierarchy as to_hierarchy_call
use Rattle.hierarchy.proofs.from_hierarchy as from_hierarchy_call
use Rattle.hierarchy.proofs.Finished.{turned_once as plain_turned_once}
use Rattle.chain.specs.Traced.{chain_answer}
use Rattle.chain.proofs.chain as chain_call
use Rattle.chain.proofs.Theorems.{chained_once}
use Rattle.added.specs.Asked.{added_answer}
use Rattle.added.proofs.add as add_call
use Rattle.added.proofs.ask_added as ask_added_call
use Rattle.added.proofs.Theorems.{add_once, added_once}
use Rattle.turned.proofs.build_turned as build_turned_call
use Rattle.turned.proofs.open_turned as open_turned_call
use Rattle.turned.proofs.ask_turned as ask_turned_call
use Rattle.turned.proofs.list_turned as list_turned_call
use Rattle.turned.proofs.Theorems.{turned_once, turned_finishes, finished_turned}
use Rattle.rules_states.specs.Rules.{rules_answer}
use Rattle.rules.proofs.settle_lists as settle_lists_call
use Rattle.rules.proofs.Theorems.{settled_once}
use Rattle.exceptions.specs.Calls.{exceptions_built, exceptions_opened, exceptions_asked}
use Rattle.exceptions.proofs.build_exceptions as build_exceptions_call
use Rattle.exceptions.proofs.open_exceptions as open_exceptions_call
use Rattle.exceptions.proofs.ask_exceptions as ask_exceptions_call
use Rattle.exceptions.proofs.Building as lists_building
use Rattle.exceptions.proofs.Opening as lists_opening
use Rattle.exceptions.proofs.Asking as lists_asking
use Rattle.exceptions_all.specs.Batch.{all_exceptions}
use Rattle.exceptions_all.proofs.ask_all_exceptions as ask_all_exceptions_call
use Rattle.exceptions_all.proofs.Theorems as exceptions_asked_all
use Rattle.text_run.proofs.run as run_call
use Rattle.text_run.proofs.Theorems.{ran_once}
use Rattle.matrix_lines.specs.Calls.{matrix_read_answer, matrix_write_answer}
use Rattle.matrix_read.proofs.read_matrix as read_matrix_call
use Rattle.matrix_read.proofs.Theorems.{read_once}
use Rattle.matrix_write.proofs.write_matrix as write_matrix_call
use Rattle.matrix_write.proofs.Theorems.{written_once}
use Rattle.demands.specs.Calls.{EveryCall}
use Rattle.demands.specs.Stored.{AsGrail}
use Rattle.demands.specs.Orders.{MoreOrders}
use Rattle.demands.proofs.Refusals.{first_refusal}
use Rattle.demands.proofs.Words.{open_no_words, ask_no_words, batch_no_words, convert_no_words}
use Rattle.demands.proofs.Stored.{build_stored, finished_stored}
use Rattle.demands.proofs.Opened.{opened_yields, opened_written, yielded_stored, opened_answers, asked_path, host_path}
use Rattle.demands.proofs.Orders.{fewer, on_a_no}

-- 1. The checker's theorem of each call is cited; what the contract says is, equation by equation, what is allowed. (Of the calls that C makes: `demand_1_from_c`, in Face.)
pub demand_1 : EveryCall
unfolding build_answer build_call open_answer ask_answer batch_answer list_answer chain_answer added_answer convert_answer rules_answer matrix_read_answer matrix_write_answer exceptions_built exceptions_opened exceptions_asked all_exceptions turn_answer
demand_1 = record {
  build = record {
    met = building_call.Met.met;
    nothing_asked = λ κs a. tt;
    allows = λ κs a r e (answers, (leaves, writes)). record { answers = answers; leaves = leaves; writes = writes };
    once = λ κs a r r' e e'. built_once;
  };
  opens = record {
    met = open_call.Met.met;
    nothing_asked = λ κs a. tt;
    allows = λ κs a r e (answers, (leaves, clears)). record { answers = answers; leaves = leaves; clears = clears };
    once = λ κs a r r' e e'. opened_once;
  };
  opens_form1 = record {
    met = open_form1_call.Met.met;
    nothing_asked = λ κs a. tt;
    allows = λ κs a r e (answers, leaves). record { answers = answers; leaves = leaves; clears = sym (open_no_words _ _ _) };
    once = λ κs a r r' e e' X Y. let (same, (marks, work)) = opened_once X Y in (same, marks);
  };
  ask = record {
    met = ask_call.Met.met;
    nothing_asked = λ κs a. tt;
    allows = λ κs a r e (answers, (leaves, clears)). record { answers = answers; leaves = leaves; clears = clears };
    once = λ κs a r r' e e'. asked_once;
  };
  ask_form1 = record {
    met = ask_form1_call.Met.met;
    nothing_asked = λ κs a. tt;
    allows = λ κs a r e (answers, leaves). record { answers = answers; leaves = leaves; clears = sym (ask_no_words _ _ _ _ _) };
    once = λ κs a r r' e e' X Y. let (same, (marks, work)) = asked_once X Y in (same, marks);
  };
  ask_all = record {
    met = ask_all_call.Met.met;
    nothing_asked = λ κs a. tt;
    allows = λ κs a r e (own, (returns, (leaves, (clears, writes)))). record { own = own; returns = returns; leaves = leaves; clears = clears; writes = writes };
    once = λ κs a r r' e e'. batch_once;
  };
  ask_all_form1 = record {
    met = ask_all_form1_call.Met.met;
    nothing_asked = λ κs a. tt;
    allows = λ κs a r e (own, (returns, (leaves, writes))). record { own = own; returns = returns; leaves = leaves; clears = sym (batch_no_words _ _ _); writes = writes };
    once = λ κs a r r' e e' X Y. let (same, (marks, (work, answers))) = batch_once X Y in (same, (marks, answers));
  };
  list = record {
    met = list_call.Met.met;
    nothing_asked = λ κs a. tt;
    allows = λ κs a r e (answers, (leaves, (clears, writes))). record { answers = answers; leaves = leaves; clears = clears; writes = writes };
    once = λ κs a r r' e e'. listed_once;
  };
  convert_up = record {
    met = convert_up_call.Met.met;
    nothing_asked = λ κs a. tt;
    allows = λ κs a r e (answers, (leaves, writes)). record { answers = answers; leaves = leaves; clears = sym (convert_no_words _ _ _); writes = writes };
    once = λ κs a r r' e e' X Y. let (same, (marks, (work, out))) = converted_once X Y in (same, (marks, out));
  };
  convert_down = record {
    met = convert_down_call.Met.met;
    nothing_asked = λ κs a. tt;
    allows = λ κs a r e (answers, (leaves, (clears, writes))). record { answers = answers; leaves = leaves; clears = clears; writes = writes };
    once = λ κs a r r' e e'. converted_once;
  };
  chain = record {
    met = chain_call.Met.met;
    nothing_asked = λ κs a. tt;
    allows = λ κs a r e (answers, (leaves, (clears, writes))). record { answers = answers; leaves = leaves; clears = clears; writes = writes };
    once = λ κs a r r' e e'. chained_once;
  };
  add = record {
    met = add_call.Met.met;
    nothing_asked = λ κs a. tt;
    allows = λ κs a r e (answers, changes). record { answers = answers; changes = changes };
    once = λ κs a r r' e e' A B. (add_once A B, tt);
  };
  ask_added = record {
    met = ask_added_call.Met.met;
    nothing_asked = λ κs a. tt;
    allows = λ κs a r e (answers, (leaves, clears)). record { answers = answers; leaves = leaves; clears = clears };
    once = λ κs a r r' e e'. added_once;
  };
  build_hierarchy = record {
    met = build_hierarchy_call.Met.met;
    nothing_asked = λ κs a. tt;
    allows = λ κs a r e (answers, (leaves, writes)). record { answers = answers; leaves = leaves; writes = writes };
    once = λ κs a r r' e e'. hierarchy_once;
  };
  opens_hierarchy = record {
    met = open_hierarchy_call.Met.met;
    nothing_asked = λ κs a. tt;
    allows = λ κs a r e (answers, (leaves, clears)). record { answers = answers; leaves = leaves; clears = clears };
    once = λ κs a r r' e e'. opened_once;
  };
  ask_hierarchy = record {
    met = ask_hierarchy_call.Met.met;
    nothing_asked = λ κs a. tt;
    allows = λ κs a r e (answers, (leaves, clears)). record { answers = answers; leaves = leaves; clears = clears };
    once = λ κs a r r' e e'. asked_once;
  };
  to_hierarchy = record {
    met = to_hierarchy_call.Met.met;
    nothing_asked = λ κs a. tt;
    allows = λ κs a r e (answers, (leaves, (clears, writes))). record { answers = answers; leaves = leaves; clears = clears; writes = writes };
    once = λ κs a r r' e e'. plain_turned_once;
  };
  from_hierarchy = record {
    met = from_hierarchy_call.Met.met;
    nothing_asked = λ κs a. tt;
    allows = λ κs a r e (answers, (leaves, (clears, writes))). record { answers = answers; leaves = leaves; clears = clears; writes = writes };
    once = λ κs a r r' e e'. plain_turned_once;
  };
  build_turned = record {
    met = build_turned_call.Met.met;
    nothing_asked = λ κs a. tt;
    allows = λ κs a r e (answers, (leaves, writes)). record { answers = answers; leaves = leaves; writes = writes };
    once = λ κs a r r' e e'. turned_once;
  };
  opens_turned = record {
    met = open_turned_call.Met.met;
    nothing_asked = λ κs a. tt;
    allows = λ κs a r e (answers, (leaves, clears)). record { answers = answers; leaves = leaves; clears = clears };
    once = λ κs a r r' e e'. opened_once;
  };
  ask_turned = record {
    met = ask_turned_call.Met.met;
    nothing_asked = λ κs a. tt;
    allows = λ κs a r e (answers, (leaves, clears)). record { answers = answers; leaves = leaves; clears = clears };
    once = λ κs a r r' e e'. asked_once;
  };
  list_turned = record {
    met = list_turned_call.Met.met;
    nothing_asked = λ κs a. tt;
    allows = λ κs a r e (answers, (leaves, (clears, writes))). record { answers = answers; leaves = leaves; clears = clears; writes = writes };
    once = λ κs a r r' e e'. listed_once;
  };
  settle_lists = record {
    met = settle_lists_call.Met.met;
    nothing_asked = λ κs a. tt;
    allows = λ κs a r e (own, (answers, (leaves, (clears, turns)))). record { own = own; answers = answers; leaves = leaves; clears = clears; turns = turns };
    once = λ κs a r r' e e'. settled_once;
  };
  build_exceptions = record {
    met = build_exceptions_call.Met.met;
    nothing_asked = λ κs a. tt;
    allows = λ κs a r e (answers, (leaves, writes)). record { answers = answers; leaves = leaves; writes = writes };
    once = λ κs a r r' e e'. lists_building.built_once;
  };
  opens_exceptions = record {
    met = open_exceptions_call.Met.met;
    nothing_asked = λ κs a. tt;
    allows = λ κs a r e (answers, leaves). record { answers = answers; leaves = leaves };
    once = λ κs a r r' e e'. lists_opening.opened_once;
  };
  ask_exceptions = record {
    met = ask_exceptions_call.Met.met;
    nothing_asked = λ κs a. tt;
    allows = λ κs a r e (answers, leaves). record { answers = answers; leaves = leaves };
    once = λ κs a r r' e e'. lists_asking.said_once;
  };
  ask_all_exceptions = record {
    met = ask_all_exceptions_call.Met.met;
    nothing_asked = λ κs a. tt;
    allows = λ κs a r e (own, (answers, (leaves, writes))). record { own = own; answers = answers; leaves = leaves; writes = writes };
    once = λ κs a r r' e e'. exceptions_asked_all.all_once;
  };
  run = record {
    met = run_call.Met.met;
    nothing_asked = λ κs a. tt;
    allows = λ κs a r e (counts, writes). record { counts = counts; writes = writes };
    once = λ κs a r r' e e'. ran_once;
  };
  read_matrix = record {
    met = read_matrix_call.Met.met;
    nothing_asked = λ κs a. tt;
    allows = λ κs a r e allowed. allowed;
    once = λ κs a r r' e e'. read_once;
  };
  write_matrix = record {
    met = write_matrix_call.Met.met;
    nothing_asked = λ κs a. tt;
    allows = λ κs a r e (answers, writes). record { answers = answers; writes = writes };
    once = λ κs a r r' e e'. written_once;
  };
  build_refuses = λ form B work out number extra. first_refusal _ number extra _;
  build_turned_refuses = λ B work out number extra. first_refusal _ number extra _;
  build_hierarchy_refuses = λ B work out number extra. first_refusal _ number extra _;
  open_refuses = λ T b marks work number extra. first_refusal _ number extra _;
  ask_refuses = λ T b u v marks work number extra. first_refusal _ number extra _;
  ask_all_refuses = λ T b sources targets marks work answers number extra. first_refusal _ number extra _;
  list_refuses = λ T b u marks work out number extra. first_refusal _ number extra _;
  read_matrix_refuses = λ text sources targets number extra. first_refusal _ number extra _;
  write_matrix_refuses = λ G out number extra. first_refusal _ number extra _;
  chain_refuses = λ T b u v marks work out number extra. first_refusal _ number extra _;
  add_refuses = λ count n from to number extra. first_refusal _ number extra _;
  ask_added_refuses = λ T b state u v marks work number extra. first_refusal _ number extra _;
  rules_refuses = λ T b changed marks work number extra. first_refusal _ number extra _;
  turn_refuses = λ from to b marks work out number extra. first_refusal _ number extra _;
  convert_refuses = λ from to b marks work out number extra. first_refusal _ number extra _;
  build_exceptions_refuses = λ b marks out number extra. first_refusal _ number extra _;
  open_exceptions_refuses = λ b lists marks number extra. first_refusal _ number extra _;
  ask_exceptions_refuses = λ b lists u v marks number extra. first_refusal _ number extra _;
  ask_all_exceptions_refuses = λ b lists sources targets marks answers number extra. first_refusal _ number extra _;
}

-- 2. What is built and what opens is a stored index, whatever graph and orders yield it; and what is stored is right.
pub demand_2 : AsGrail
demand_2 = record {
  finishes = build_finishes;
  built = build_stored;
  finishes_turned = turned_finishes;
  built_turned = λ X done. finished_stored (finished_turned X done);
  finishes_hierarchy = hierarchy_finishes;
  built_hierarchy = λ X done. finished_stored (finished_hierarchy X done);
  opened_hierarchy = opened_written;
  opened = opened_yields;
  yielded = yielded_stored;
  answers = opened_answers;
  path = asked_path;
  host_path = host_path;
}

-- 3. Two stored indexes of one graph, the orders of the first among those of the second.
pub demand_3 : MoreOrders
demand_3 = record {
  fewer = fewer;
  built = λ G orders₁ orders₂ b₁ b₂ D₁ D₂. fewer G orders₁ orders₂ b₁ b₂ (build_stored D₁) (build_stored D₂);
  on_a_no = on_a_no;
}
