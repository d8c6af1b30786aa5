-- What a proof unfolds to compute readings of JSON values that are written out.
use Rattle.std.specs.Prelude.{⊤}
use Rattle.std.specs.Fmt.{digits}
use Rattle.mud_base.specs.Readings.{answer, done, ◌>>=◌, refused_where, wanted, where_there, over}
use Rattle.usage_walk.specs.Members.{name_of}
use Rattle.usage_walk.specs.Names as names
use Rattle.usage_walk.specs.Names.{number_of}
use Rattle.usage_walk.specs.Reading.{under, at_index, under_name, fault_at}
use Rattle.usage_walk.specs.Kinds as kinds
use Rattle.usage_walk.specs.Kinds.{text_of, object_of, leaf_of, member_at, text_at, number_at, truth_at, object_at, inside, text_where_there, number_where_there, object_where_there, list_where_there, leaf_where_there}
use Rattle.usage_walk.specs.Named.{is_named, element_named, element, with_named, next_element, element_at, elements_of}
use Rattle.usage_walk.specs.Others.{is_among, all_known}
use Rattle.usage_walk.specs.Tables.{row_of, rows_of, table_of, container_at}

unfoldable pub walk_on_literals : ⊤
unfolding digits answer done ◌>>=◌ refused_where wanted where_there over name_of number_of names.name_of under at_index under_name fault_at text_of kinds.number_of object_of leaf_of member_at text_at number_at truth_at object_at inside text_where_there number_where_there object_where_there list_where_there leaf_where_there is_named element_named element with_named next_element element_at elements_of is_among all_known row_of rows_of table_of container_at
walk_on_literals = tt
