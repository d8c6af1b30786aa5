-- The tests of ports (RFC 8519, 4.2): one port with an operator, or a range.
use Rattle.std.specs.Prelude.{ℕ, Bool, ◌&&◌, ◌||◌, nat_lt, List, [], ◌∷◌, Some, is_some, unwrap_or, if◌then◌else◌}
use Rattle.acl_model.specs.declared.entry.PortTest.{PortTest}
use Rattle.acl_model.specs.declared.entry.PortTest.TheVariants as test
use Rattle.serde_json.specs.Data.{Data}
use Rattle.usage_walk.specs.declared.fault.Rule.TheVariants as rule
use Rattle.usage_walk.specs.declared.member.Member.{Member}
use Rattle.usage_walk.specs.declared.member.Member.TheVariants.{Operator, Port, LowerPort, UpperPort}
use Rattle.usage_walk.specs.declared.row.Row.{Row}
use Rattle.mud_base.specs.Readings.{done, ◌>>=◌, refused_where, where_there}
use Rattle.usage_walk.specs.Reading.{Reading, under, fault_at}
use Rattle.usage_walk.specs.Kinds.{number_at, object_where_there, inside}
use Rattle.usage_walk.specs.Others.{all_known}
use Rattle.usage_walk.specs.Tables.{row}
use Rattle.usage_match.specs.declared.entry_tests.Operator as how
use Rattle.usage_match.specs.declared.entry_tests.Operator.TheVariants as operator
use Rattle.usage_match.specs.Texts.{as_upto, operator_where_there}

-- whether the object has the member
unfoldable pub stands : Member → Data → Bool
stands m d = is_some (inside m (Some d))

unfoldable pub names_range : Data → Bool
names_range d = stands LowerPort d || stands UpperPort d

-- both ends are numbers, then both are ports, then they are in order
unfoldable pub range_at : List ℕ → Data → Reading PortTest
range_at path d = do
  lower ← number_at path LowerPort d
  upper ← number_at path UpperPort d
  first ← as_upto 65535 path LowerPort lower
  last ← as_upto 65535 path UpperPort upper
  _ ← refused_where (nat_lt last first) (fault_at rule.PortRange path)
  done (test.Within first last)

unfoldable pub test_of : how.Operator → ℕ → PortTest
test_of operator.Eq n = test.Eq n
test_of operator.Neq n = test.Neq n
test_of operator.Lte n = test.Lte n
test_of operator.Gte n = test.Gte n

-- an absent operator is read as `eq`; the port has to be there
unfoldable pub single_at : List ℕ → Data → Reading PortTest
single_at path d = do
  named ← operator_where_there path Operator d
  number ← number_at path Port d
  port ← as_upto 65535 path Port number
  done (test_of (unwrap_or named operator.Eq) port)

-- the test of a port container, the object at this path
unfoldable pub port_test_of : List ℕ → Data → Reading PortTest
port_test_of path d = do
  _ ← all_known path port_rows d
  _ ← refused_where (names_range d && names_single d) (fault_at rule.PortRange path)
  if names_range d then range_at path d else single_at path d
  where
    names_single : Data → Bool
    names_single d = stands Operator d || stands Port d

    -- the members of a port container: two of one port, and two of a range
    port_rows : List (Row (Unit {0}))
    port_rows = row Operator tt ∷ row Port tt ∷ row LowerPort tt ∷ row UpperPort tt ∷ []

-- an absent container tests nothing
unfoldable pub port_where_there : List ℕ → Member → Data → Reading PortTest
port_where_there path m parent = do
  container ← object_where_there path m (Some parent)
  found ← where_there (port_test_of (under path m)) container
  done (unwrap_or found test.Any)
