-- Demand 1 of the calls that C makes, proved: the checker's theorem of each is cited; what the contract says is, equation by equation, what is allowed.
use base.Logic.{emp, id⊢}
use Rattle.text_run.proofs.Theorems.{ran_once}
use Rattle.rules_table.proofs.drobisten_settle_rules as settle_rules_call
use Rattle.rules_table.proofs.Theorems.{table_once}
use Rattle.face.proofs.drobisten_open as open_call
use Rattle.face.proofs.drobisten_ask as ask_call
use Rattle.face.proofs.drobisten_ask_all as ask_all_call
use Rattle.face_ask.proofs.drobisten_inspect as inspect_call
use Rattle.face_ask.proofs.drobisten_inspect_turned as inspect_turned_call
use Rattle.face_ask.proofs.drobisten_question as question_call
use Rattle.face_ask.proofs.drobisten_question_turned as question_turned_call
use Rattle.face_ask.proofs.drobisten_batch as batch_call
use Rattle.face_ask.proofs.drobisten_convert_up as convert_up_call
use Rattle.face_ask.proofs.drobisten_convert_down as convert_down_call
use Rattle.face_list.proofs.drobisten_list as list_call
use Rattle.face_list.proofs.drobisten_list_turned as list_turned_call
use Rattle.face_list.proofs.drobisten_chain as chain_call
use Rattle.face_build.proofs.drobisten_build as building_call
use Rattle.face_build.proofs.drobisten_build_turned as build_turned_call
use Rattle.face_build.proofs.drobisten_run as run_call
use Rattle.face_beside.proofs.drobisten_add as add_call
use Rattle.face_beside.proofs.drobisten_ask_added as ask_added_call
use Rattle.face_beside.proofs.drobisten_settle_lists as settle_lists_call
use Rattle.face_matrix.proofs.drobisten_read_matrix as read_matrix_call
use Rattle.face_matrix.proofs.drobisten_write_matrix as write_matrix_call
use Rattle.face_exceptions.proofs.drobisten_build_exceptions as build_exceptions_call
use Rattle.face_exceptions.proofs.drobisten_open_exceptions as open_exceptions_call
use Rattle.face_exceptions.proofs.drobisten_ask_exceptions as ask_exceptions_call
use Rattle.face_exceptions.proofs.drobisten_ask_all_exceptions as ask_all_exceptions_call
use Rattle.face_hierarchy.proofs.drobisten_build_hierarchy as build_hierarchy_call
use Rattle.face_hierarchy.proofs.drobisten_inspect_hierarchy as inspect_hierarchy_call
use Rattle.face_hierarchy.proofs.drobisten_question_hierarchy as question_hierarchy_call
use Rattle.face_hierarchy.proofs.drobisten_to_hierarchy as to_hierarchy_call
use Rattle.face_hierarchy.proofs.drobisten_from_hierarchy as from_hierarchy_call
use Rattle.face.proofs.Theorems as host
use Rattle.face_ask.proofs.Theorems as asking
use Rattle.face_list.proofs.Theorems as listing
use Rattle.face_build.proofs.Theorems as building
use Rattle.face_beside.proofs.Theorems as beside
use Rattle.face_matrix.proofs.Theorems as matrix
use Rattle.face_hierarchy.proofs.Theorems as plain
use Rattle.face_exceptions.proofs.Theorems as exceptions
use Rattle.demands.specs.Face.{EveryExport}

pub demand_1_from_c : EveryExport
demand_1_from_c = record {
  opens = record {
    met = open_call.Met.met;
    nothing_asked = λ κs a. tt;
    allows = λ κs a r e (returns, leaves). record { returns = returns; leaves = leaves };
    once = λ κs a r r' e e'. host.opened_once;
  };
  asks = record {
    met = ask_call.Met.met;
    nothing_asked = λ κs a. tt;
    allows = λ κs a r e (returns, leaves). record { returns = returns; leaves = leaves };
    once = λ κs a r r' e e'. host.asked_once;
  };
  asks_all = record {
    met = ask_all_call.Met.met;
    nothing_asked = λ κs a. tt;
    allows = λ κs a r e (returns, (leaves, writes)). record { returns = returns; leaves = leaves; writes = writes };
    once = λ κs a r r' e e'. host.asked_all_once;
  };
  inspects = record {
    met = inspect_call.Met.met;
    nothing_asked = λ κs a. tt;
    allows = λ κs a r e (returns, (leaves, clears)). record { returns = returns; leaves = leaves; clears = clears };
    once = λ κs a r r' e e'. asking.inspected_once;
  };
  inspects_turned = record {
    met = inspect_turned_call.Met.met;
    nothing_asked = λ κs a. tt;
    allows = λ κs a r e (returns, (leaves, clears)). record { returns = returns; leaves = leaves; clears = clears };
    once = λ κs a r r' e e'. asking.inspected_once;
  };
  questions = record {
    met = question_call.Met.met;
    nothing_asked = λ κs a. tt;
    allows = λ κs a r e (returns, (leaves, clears)). record { returns = returns; leaves = leaves; clears = clears };
    once = λ κs a r r' e e'. asking.questioned_once;
  };
  questions_turned = record {
    met = question_turned_call.Met.met;
    nothing_asked = λ κs a. tt;
    allows = λ κs a r e (returns, (leaves, clears)). record { returns = returns; leaves = leaves; clears = clears };
    once = λ κs a r r' e e'. asking.questioned_once;
  };
  batches = record {
    met = batch_call.Met.met;
    nothing_asked = λ κs a. tt;
    allows = λ κs a r e (returns, (leaves, (clears, writes))). record { returns = returns; leaves = leaves; clears = clears; writes = writes };
    once = λ κs a r r' e e'. asking.batched_once;
  };
  lists = record {
    met = list_call.Met.met;
    nothing_asked = λ κs a. tt;
    allows = λ κs a r e (returns, (leaves, (clears, writes))). record { returns = returns; leaves = leaves; clears = clears; writes = writes };
    once = λ κs a r r' e e'. listing.listed_once;
  };
  lists_turned = record {
    met = list_turned_call.Met.met;
    nothing_asked = λ κs a. tt;
    allows = λ κs a r e (returns, (leaves, (clears, writes))). record { returns = returns; leaves = leaves; clears = clears; writes = writes };
    once = λ κs a r r' e e'. listing.listed_once;
  };
  chains = record {
    met = chain_call.Met.met;
    nothing_asked = λ κs a. tt;
    allows = λ κs a r e (returns, (leaves, (clears, writes))). record { returns = returns; leaves = leaves; clears = clears; writes = writes };
    once = λ κs a r r' e e'. listing.chained_once;
  };
  builds = record {
    met = building_call.Met.met;
    nothing_asked = λ κs a. tt;
    allows = λ κs a r e (returns, (leaves, writes)). record { returns = returns; leaves = leaves; writes = writes };
    once = λ κs a r r' e e'. building.built_once;
  };
  builds_turned = record {
    met = build_turned_call.Met.met;
    nothing_asked = λ κs a. tt;
    allows = λ κs a r e (returns, (leaves, writes)). record { returns = returns; leaves = leaves; writes = writes };
    once = λ κs a r r' e e'. building.built_form_once;
  };
  converts_up = record {
    met = convert_up_call.Met.met;
    nothing_asked = λ κs a. tt;
    allows = λ κs a r e (returns, (leaves, writes)). record { returns = returns; leaves = leaves; writes = writes };
    once = λ κs a r r' e e'. asking.converted_up_once;
  };
  converts_down = record {
    met = convert_down_call.Met.met;
    nothing_asked = λ κs a. tt;
    allows = λ κs a r e (returns, (leaves, (clears, writes))). record { returns = returns; leaves = leaves; clears = clears; writes = writes };
    once = λ κs a r r' e e'. asking.converted_down_once;
  };
  runs = record {
    met = run_call.Met.met;
    nothing_asked = λ κs a. tt;
    allows = λ κs a r e (counts, writes). record { counts = counts; writes = writes };
    once = λ κs a r r' e e'. ran_once;
  };
  adds = record {
    met = add_call.Met.met;
    nothing_asked = λ κs a. tt;
    allows = λ κs a r e returns. record { returns = returns };
    once = λ κs a r r' e e' A B. (beside.taken_once A B, tt);
  };
  asks_added = record {
    met = ask_added_call.Met.met;
    nothing_asked = λ κs a. tt;
    allows = λ κs a r e (returns, (leaves, clears)). record { returns = returns; leaves = leaves; clears = clears };
    once = λ κs a r r' e e'. beside.said_once;
  };
  settles_lists = record {
    met = settle_lists_call.Met.met;
    nothing_asked = λ κs a. tt;
    allows = λ κs a r e (returns, (leaves, (clears, turns))). record { returns = returns; leaves = leaves; clears = clears; turns = turns };
    once = λ κs a r r' e e'. beside.lists_settled_once;
  };
  reads_matrix = record {
    met = read_matrix_call.Met.met;
    nothing_asked = λ κs a. tt;
    allows = λ κs a r e (returns, (sources, targets)). record { returns = returns; sources_hold = sources; targets_hold = targets };
    once = λ κs a r r' e e'. matrix.read_once;
  };
  writes_matrix = record {
    met = write_matrix_call.Met.met;
    nothing_asked = λ κs a. tt;
    allows = λ κs a r e (returns, writes). record { returns = returns; writes = writes };
    once = λ κs a r r' e e'. matrix.written_once;
  };
  builds_exceptions = record {
    met = build_exceptions_call.Met.met;
    nothing_asked = λ κs a. tt;
    allows = λ κs a r e (returns, (leaves, writes)). record { returns = returns; leaves = leaves; writes = writes };
    once = λ κs a r r' e e'. exceptions.lists_built_once;
  };
  opens_exceptions = record {
    met = open_exceptions_call.Met.met;
    nothing_asked = λ κs a. tt;
    allows = λ κs a r e (returns, leaves). record { returns = returns; leaves = leaves };
    once = λ κs a r r' e e'. exceptions.lists_opened_once;
  };
  asks_exceptions = record {
    met = ask_exceptions_call.Met.met;
    nothing_asked = λ κs a. tt;
    allows = λ κs a r e (returns, leaves). record { returns = returns; leaves = leaves };
    once = λ κs a r r' e e'. exceptions.lists_asked_once;
  };
  asks_all_exceptions = record {
    met = ask_all_exceptions_call.Met.met;
    nothing_asked = λ κs a. tt;
    allows = λ κs a r e (returns, (leaves, writes)). record { returns = returns; leaves = leaves; writes = writes };
    once = λ κs a r r' e e'. exceptions.lists_asked_all_once;
  };
  builds_hierarchy = record {
    met = build_hierarchy_call.Met.met;
    nothing_asked = λ κs a. tt;
    allows = λ κs a r e (returns, (leaves, writes)). record { returns = returns; leaves = leaves; writes = writes };
    once = λ κs a r r' e e'. building.built_form_once;
  };
  inspects_hierarchy = record {
    met = inspect_hierarchy_call.Met.met;
    nothing_asked = λ κs a. tt;
    allows = λ κs a r e (returns, (leaves, clears)). record { returns = returns; leaves = leaves; clears = clears };
    once = λ κs a r r' e e'. asking.inspected_once;
  };
  questions_hierarchy = record {
    met = question_hierarchy_call.Met.met;
    nothing_asked = λ κs a. tt;
    allows = λ κs a r e (returns, (leaves, clears)). record { returns = returns; leaves = leaves; clears = clears };
    once = λ κs a r r' e e'. asking.questioned_once;
  };
  turns_to_hierarchy = record {
    met = to_hierarchy_call.Met.met;
    nothing_asked = λ κs a. tt;
    allows = λ κs a r e (returns, (leaves, (clears, writes))). record { returns = returns; leaves = leaves; clears = clears; writes = writes };
    once = λ κs a r r' e e'. plain.turned_once;
  };
  turns_from_hierarchy = record {
    met = from_hierarchy_call.Met.met;
    nothing_asked = λ κs a. tt;
    allows = λ κs a r e (returns, (leaves, (clears, writes))). record { returns = returns; leaves = leaves; clears = clears; writes = writes };
    once = λ κs a r r' e e'. plain.turned_once;
  };
  settles_records = record {
    met = settle_rules_call.Met.met;
    nothing_asked = λ κs a. tt;
    allows = λ κs a r e allowed. allowed;
    once = λ κs a r r' e e'. table_once;
  };
  settles_rules = record {
    met = λ {𝓤 = 𝓤} 𝓛 𝓜 𝓡 wired. settle_rules_call.Met.met 𝓤 𝓛 𝓜 𝓡 wired;
    nothing_asked = λ {𝓤 = 𝓤} 𝓛 mem run κs a g. id⊢ 𝓤 (emp 𝓤);
    allows = λ {𝓤 = 𝓤} 𝓛 mem run κs a g r e. id⊢ 𝓤 _;
    once = λ κs a r r' e e'. table_once;
  };
}
