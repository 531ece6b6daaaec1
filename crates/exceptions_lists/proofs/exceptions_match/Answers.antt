-- `exceptions_lists::exceptions_match` meets its contract: bytes that are too short, of another length than their number of entries says, of another k, or with another
-- first start are not the lists; of the others it is told list by list.
use Rattle.std.proofs.Common.{Fits, w8, List, get_or}
use mathlib.Core.Path.{◌≡◌}
use Prim.Native.Nat.{ℕ, ◌≤◌}
use native.Mathlib.Omega.{arith}
use lib.ListN.{length}
use Rattle.lineage.specs.Index.{Index}
use Rattle.lineage.specs.Calls.{index_in}
use Rattle.numbers.proofs.Written.{Bytes}
use Rattle.exceptions_marks.proofs.Fitted.{groups_many}
use Rattle.exceptions_lists.proofs.Matched.{not_short, not_long, not_count, not_first, lists_by_lem}
use Rattle.sound_places.proofs.Images.{sound_bytes}
use Rattle.exceptions_lists.proofs.exceptions_match.Goals as goal
use Rattle.exceptions_lists.proofs.exceptions_match.Goals.{Start, Else-lists-k}

abbrev index_of : (a : Start) → Index
index_of a = index_in a.args.index.now.image.bytes.now

many : (a : Start) → length (index_of a).groups ≡ a.args.index.now.image.layout.k
many a = groups_many (sound_bytes a.args.index.now)

few : (a : Start) → length (index_of a).groups ≤ 4096
few a = omega (arith, many a, a.requires.k_bound)

bytes : (lists : List ℕ) → ((i : ℕ) → Fits w8 (get_or lists i 0)) → Bytes lists
bytes lists h = λ i. omega (arith, h i)

pub returns-then-lists-k-clause-value : goal.returns-then-lists-k-clause-value
returns-then-lists-k-clause-value c =
    not_short (index_of (goal.at.returns-then-lists-k-clause-value c).Start) c.args.lists.now (bytes _ c.type_inv.lists) (few (goal.at.returns-then-lists-k-clause-value c).Start) (omega (arith, many (goal.at.returns-then-lists-k-clause-value c).Start, c.if-lists-k.true))

pub returns-then-lists-most-clause-value : goal.returns-then-lists-most-clause-value
returns-then-lists-most-clause-value c =
    not_long (index_of (goal.at.returns-then-lists-most-clause-value c).Start) c.args.lists.now (bytes _ c.type_inv.lists) (few (goal.at.returns-then-lists-most-clause-value c).Start) c.num.ensures.0 (λ e. c.if-lists-most.true (omega (arith, many (goal.at.returns-then-lists-most-clause-value c).Start, e)))

pub returns-then-num-k-clause-value : goal.returns-then-num-k-clause-value
returns-then-num-k-clause-value c =
    not_count (index_of (goal.at.returns-then-num-k-clause-value c).Start) c.args.lists.now (bytes _ c.type_inv.lists) (few (goal.at.returns-then-num-k-clause-value c).Start) c.num-2.ensures.0 (λ e. c.if-num-k.true (omega (arith, many (goal.at.returns-then-num-k-clause-value c).Start, e)))

pub returns-then-num-ne0-clause-value : goal.returns-then-num-ne0-clause-value
returns-then-num-ne0-clause-value c =
    not_first (index_of (goal.at.returns-then-num-ne0-clause-value c).Start) c.args.lists.now (bytes _ c.type_inv.lists) (few (goal.at.returns-then-num-ne0-clause-value c).Start) c.num-3.ensures.0 c.if-num-ne0.true

pub returns-clause-value : goal.returns-clause-value
returns-clause-value c =
    let I = index_of (goal.at.returns-clause-value c).Start in
    let lists = c.args.lists.now in
    lists_by_lem I lists (bytes _ c.type_inv.lists) (few (goal.at.returns-clause-value c).Start) c.if-lists-most.false (omega (arith, many (goal.at.returns-clause-value c).Start, c.num.ensures.0)) (omega (arith, many (goal.at.returns-clause-value c).Start, c.num-2.ensures.0, c.if-num-k.false))
    (omega (arith, c.num-3.ensures.0, c.if-num-ne0.false)) _ (many (goal.at.returns-clause-value c).Start) c.lists_stand.ensures.value
