-- Sections whose numbers are given as words.
use Rattle.std.specs.Prelude.{cond, List, [], ◌∷◌, ℕ, eqb}
use Rattle.lineage.specs.Labels.{Labelling}
use Rattle.build_writing.specs.declared.LabellingWords.{LabellingWords}
use Rattle.build_writing.specs.declared.GroupWords.{GroupWords}

-- the z numbers of a group: s, m and e, or s and e
abbrev pub label_by : ℕ → (s m e : ℕ) → List ℕ
label_by z s m e = cond (eqb z 2) (s ∷ e ∷ []) (s ∷ m ∷ e ∷ [])

-- the labelling whose words are given
abbrev pub labelling_in_words : LabellingWords → Labelling
labelling_in_words words = record { s = words.s.now; m = words.m.now; e = words.e.now; by_rank = words.by_rank.now }

-- the sections before the labels: names, group list, levels, child starts, children; and those whose words are given
pub record GroupLists : Type 0 where
  pub names : List ℕ
  pub groups : List ℕ
  pub levels : List ℕ
  pub starts : List ℕ
  pub children : List ℕ

abbrev pub group_lists : GroupWords → GroupLists
group_lists words =
    record { names = words.names.now; groups = words.groups.now; levels = words.levels.now; starts = words.starts.now; children = words.children.now }

abbrev pub group_sections : GroupLists → List (List ℕ)
group_sections lists = lists.names ∷ lists.groups ∷ lists.levels ∷ lists.starts ∷ lists.children ∷ []
