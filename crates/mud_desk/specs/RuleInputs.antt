-- On what the verdicts of a desk rest, and when these are those of a desk.
use Rattle.std.specs.Prelude.{◌≡◌, ℕ, List}
use Rattle.mud_base.specs.declared.prefix.Prefix.{Prefix}
use Rattle.mud_base.specs.declared.packet.Direction.{Direction}
use Rattle.mud_base.specs.declared.packet.Fields.{Fields}
use Rattle.acl_model.specs.declared.ruling.Ruling.{Ruling}
use Rattle.acl_model.specs.Match.{peer_of}
use Rattle.acl_compile.specs.Compiled.{CompiledState}
use Rattle.acl_compile.specs.Plans.{policy_held}
use Rattle.table_model.specs.declared.thing.Thing.{Thing}
use Rattle.table_model.specs.declared.segment.Segment.{Segment}
use Rattle.table_model.specs.Bindings.{ruling_by_bindings}
use Rattle.table_model.specs.History.{begun_of}
use Rattle.packet_judge.specs.RuleSteps.{url_rows_read, url_steps}
use Rattle.desk_model.specs.DeskTables.{DeskTables}
use Rattle.desk_books.specs.CompiledDesk.{IsCompiledOf}

-- the Things, what is compiled, the local networks, and the packets that were forwarded
pub record RuleInputs : Type 0 where
  pub things : List Thing
  pub compiled : CompiledState
  pub locals : List Prefix
  pub history : List Segment

abbrev pub rule_inputs : List Thing → CompiledState → List Prefix → List Segment → RuleInputs
rule_inputs things compiled locals history = record { things = things; compiled = compiled; locals = locals; history = history }

-- the Things, what is compiled and the local networks are the desk's
pub record AreRuleInputsOf (desk : DeskTables) (g : RuleInputs) : Type 0 where
  pub things : g.things ≡ desk.tables.things
  pub compiled : IsCompiledOf desk g.compiled
  pub locals : g.locals ≡ desk.tables.locals

-- the ruling by what is compiled: by the policy that is held for the Thing's URL, the bindings, and the local networks
unfoldable pub ruling_on : RuleInputs → ℕ → Direction → Thing → Fields → Ruling
ruling_on g now side thing fields =
    ruling_by_bindings g.compiled.bindings g.locals now thing.url (policy_held g.compiled.slots thing.url) side fields (begun_of g.history side fields now)

-- ---- Steps

-- the rows that a ruling reads at least: those of the file of the Thing's URL at the peer
unfoldable pub rows_read : CompiledState → Direction → Thing → Fields → ℕ
rows_read c side thing fields = url_rows_read c.slots c.rows thing.url side (peer_of side fields)

-- the steps of a ruling at most, where the rows can be counted with `b` binary digits
unfoldable pub ruling_steps : CompiledState → ℕ → Direction → Thing → Fields → ℕ
ruling_steps c b side thing fields = url_steps c.slots c.rows thing.url side (peer_of side fields) b
