use Rattle.std.proofs.Common.{refl}
use Rattle.table_laws.proofs.TableBindings.{bindings_apart}
use Rattle.usage_tables.proofs.PolicyLaws.{policy_in-policies_of}
use Rattle.packet_judge.specs.Verdicts.{endpoint_ruling, rulings_of}
use Rattle.desk_model.specs.Verdicts.{policy_at, policies, desk_bindings, ruling_at}
use Rattle.desk_model.proofs.Passing.{packet_passes}
use Rattle.desk_model.proofs.session_laws.desks_rule.Goals as goal

pub returns-clause-policies : goal.returns-clause-policies
unfolding policies policy_at
returns-clause-policies c desk url sound = policy_in-policies_of desk.files url sound.files.ascend

pub returns-clause-bindings : goal.returns-clause-bindings
unfolding desk_bindings
returns-clause-bindings c desk sound = bindings_apart desk.tables sound.tables

pub returns-clause-endpoints : goal.returns-clause-endpoints
unfolding endpoint_ruling rulings_of ruling_at
returns-clause-endpoints c desk history now side thing fields = refl

pub returns-clause-passes : goal.returns-clause-passes
returns-clause-passes c desk history now octets packet e managed = packet_passes desk history now octets packet e managed
