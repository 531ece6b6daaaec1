-- `build_condense::condense` meets its contract. Each step finds what the steps before it left: the numbers, the rows and the regions of the traversal lie side
-- by side, and none writes what a later one still reads.
use Rattle.build_condense.proofs.Found.{rows_fit, names_fit, list_fit, groups_found}
use Rattle.build_condense.proofs.condense.Goals as goal

pub rows-requires : goal.rows-requires
rows-requires c = rows_fit c.requires c.count_up.ensures.kept c.count_up.ensures.n_after

pub name_groups-requires : goal.name_groups-requires
name_groups-requires c = names_fit c.requires c.count_up.ensures.kept c.count_up.ensures.n_after c.rows.ensures.kept c.rows.ensures.rows_at

pub group_list-requires : goal.group_list-requires
group_list-requires c =
    list_fit c.requires c.count_up.ensures.kept c.count_up.ensures.n_after c.rows.ensures.kept c.rows.ensures.rows_at c.name_groups.ensures.kept
    c.name_groups.ensures.group_names

pub returns : goal.returns
returns c =
    groups_found c.requires c.count_up.ensures.kept c.count_up.ensures.n_after c.rows.ensures.kept c.rows.ensures.rows_at c.name_groups.ensures.kept
    c.name_groups.ensures.group_names c.group_list.ensures.kept c.group_list.ensures.upper_bound c.group_list.ensures.n_after
    c.group_list.ensures.result_after c.group_list.ensures.n_after_2
