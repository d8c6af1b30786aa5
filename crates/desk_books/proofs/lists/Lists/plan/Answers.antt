use Rattle.std.proofs.Common.{ℕ, List, true, false, subst}
use Rattle.desk_model.specs.declared.command.Command.TheVariants.{HearUrl, HearLease, Move, Remove, Hold, Release, Lease, EndLease, Import, Verdict, Revoke, Bind, Unbind, Locals, Observe}
use Rattle.desk_model.specs.DeskTables.{DeskTables}
use Rattle.desk_model.specs.Commands.{command_step, by_files, by_binds}
use Rattle.mud_base.specs.declared.prefix.Prefix.{Prefix}
use Rattle.table_model.specs.Tables.{binds_of}
use Rattle.desk_books.specs.InBooks.{IsAnswerIn}
use Rattle.table_model.specs.ThingCommands.{url_step, move_step, remove_step, hold_step, release_step, lease_step, end_step}
use Rattle.table_model.specs.BindCommands.{bind_class_step, unbind_class_step, set_locals_step, observe_name_step}
use Rattle.usage_tables.specs.FileCommands.{import_step, verdict_step, revoke_step}
use Rattle.desk_books.specs.declared.lists.Lists.{Lists}
use Rattle.desk_books.specs.Books.{desk_with}
use Rattle.desk_books.proofs.Asked.{answer_of}
use Rattle.desk_books.proofs.lists.Lists.plan.Goals as goal

pub returns-in-HearUrl-clause-planned : goal.returns-in-HearUrl-clause-planned
unfolding command_step
returns-in-HearUrl-clause-planned c stamp =
    let desk : DeskTables = desk_with c.args.self.now stamp in
    let lists : Lists = record { things = c.plan_url.new.self; files = c.args.self.now.files; binds = c.args.self.now.binds } in
    answer_of desk c.args.now c.args.command (HearUrl c.in-HearUrl.mac c.in-HearUrl.url) lists c.of_things.result c.in-HearUrl.is (c.of_things.ensures desk c.args.now (url_step c.in-HearUrl.mac c.in-HearUrl.url c.args.self.now.things.things) lists c.plan_url.ensures.ok c.plan_url.ensures.err)

pub returns-in-HearLease-clause-planned : goal.returns-in-HearLease-clause-planned
unfolding command_step
returns-in-HearLease-clause-planned c stamp =
    let desk : DeskTables = desk_with c.args.self.now stamp in
    let lists : Lists = record { things = c.plan_lease.new.self; files = c.args.self.now.files; binds = c.args.self.now.binds } in
    answer_of desk c.args.now c.args.command (HearLease c.in-HearLease.mac c.in-HearLease.addr c.in-HearLease.seconds) lists c.of_things-in-HearLease.result c.in-HearLease.is (c.of_things-in-HearLease.ensures desk c.args.now (lease_step c.in-HearLease.mac c.in-HearLease.addr c.in-HearLease.seconds c.args.now true c.args.self.now.things.things) lists c.plan_lease.ensures.ok c.plan_lease.ensures.err)

pub returns-in-Move-clause-planned : goal.returns-in-Move-clause-planned
unfolding command_step
returns-in-Move-clause-planned c stamp =
    let desk : DeskTables = desk_with c.args.self.now stamp in
    let lists : Lists = record { things = c.plan_move.new.self; files = c.args.self.now.files; binds = c.args.self.now.binds } in
    answer_of desk c.args.now c.args.command (Move c.in-Move.mac c.in-Move.url) lists c.of_things-in-Move.result c.in-Move.is (c.of_things-in-Move.ensures desk c.args.now (move_step c.in-Move.mac c.in-Move.url c.args.self.now.things.things) lists c.plan_move.ensures.ok c.plan_move.ensures.err)

pub returns-in-Remove-clause-planned : goal.returns-in-Remove-clause-planned
unfolding command_step
returns-in-Remove-clause-planned c stamp =
    let desk : DeskTables = desk_with c.args.self.now stamp in
    let lists : Lists = record { things = c.plan_remove.new.self; files = c.args.self.now.files; binds = c.args.self.now.binds } in
    answer_of desk c.args.now c.args.command (Remove c.in-Remove.mac) lists c.of_things-in-Remove.result c.in-Remove.is (c.of_things-in-Remove.ensures desk c.args.now (remove_step c.in-Remove.mac c.args.self.now.things.things) lists c.plan_remove.ensures.ok c.plan_remove.ensures.err)

pub returns-in-Hold-clause-planned : goal.returns-in-Hold-clause-planned
unfolding command_step
returns-in-Hold-clause-planned c stamp =
    let desk : DeskTables = desk_with c.args.self.now stamp in
    let lists : Lists = record { things = c.plan_hold.new.self; files = c.args.self.now.files; binds = c.args.self.now.binds } in
    answer_of desk c.args.now c.args.command (Hold c.in-Hold.mac) lists c.of_things-in-Hold.result c.in-Hold.is (c.of_things-in-Hold.ensures desk c.args.now (hold_step c.in-Hold.mac c.args.self.now.things.things) lists c.plan_hold.ensures.ok c.plan_hold.ensures.err)

pub returns-in-Release-clause-planned : goal.returns-in-Release-clause-planned
unfolding command_step
returns-in-Release-clause-planned c stamp =
    let desk : DeskTables = desk_with c.args.self.now stamp in
    let lists : Lists = record { things = c.plan_release.new.self; files = c.args.self.now.files; binds = c.args.self.now.binds } in
    answer_of desk c.args.now c.args.command (Release c.in-Release.mac) lists c.of_things-in-Release.result c.in-Release.is (c.of_things-in-Release.ensures desk c.args.now (release_step c.in-Release.mac c.args.self.now.things.things) lists c.plan_release.ensures.ok c.plan_release.ensures.err)

pub returns-in-Lease-clause-planned : goal.returns-in-Lease-clause-planned
unfolding command_step
returns-in-Lease-clause-planned c stamp =
    let desk : DeskTables = desk_with c.args.self.now stamp in
    let lists : Lists = record { things = c.plan_lease-in-Lease.new.self; files = c.args.self.now.files; binds = c.args.self.now.binds } in
    answer_of desk c.args.now c.args.command (Lease c.in-Lease.mac c.in-Lease.addr c.in-Lease.seconds) lists c.of_things-in-Lease.result c.in-Lease.is (c.of_things-in-Lease.ensures desk c.args.now (lease_step c.in-Lease.mac c.in-Lease.addr c.in-Lease.seconds c.args.now false c.args.self.now.things.things) lists c.plan_lease-in-Lease.ensures.ok c.plan_lease-in-Lease.ensures.err)

pub returns-in-EndLease-clause-planned : goal.returns-in-EndLease-clause-planned
unfolding command_step
returns-in-EndLease-clause-planned c stamp =
    let desk : DeskTables = desk_with c.args.self.now stamp in
    let lists : Lists = record { things = c.plan_end.new.self; files = c.args.self.now.files; binds = c.args.self.now.binds } in
    answer_of desk c.args.now c.args.command (EndLease c.in-EndLease.addr) lists c.of_things-in-EndLease.result c.in-EndLease.is (c.of_things-in-EndLease.ensures desk c.args.now (end_step c.in-EndLease.addr c.args.self.now.things.things) lists c.plan_end.ensures.ok c.plan_end.ensures.err)

pub returns-in-Revoke-clause-planned : goal.returns-in-Revoke-clause-planned
unfolding command_step
returns-in-Revoke-clause-planned c stamp =
    let desk : DeskTables = desk_with c.args.self.now stamp in
    let lists : Lists = record { things = c.args.self.now.things; files = c.plan_revoke.new.self; binds = c.args.self.now.binds } in
    answer_of desk c.args.now c.args.command (Revoke c.in-Revoke.url) lists c.of_files-in-Revoke.result c.in-Revoke.is (c.of_files-in-Revoke.ensures desk c.args.now (revoke_step c.in-Revoke.url c.args.self.now.files.files) lists c.plan_revoke.ensures.ok c.plan_revoke.ensures.err)

pub returns-in-Bind-clause-planned : goal.returns-in-Bind-clause-planned
unfolding command_step binds_of
returns-in-Bind-clause-planned c stamp =
    let desk : DeskTables = desk_with c.args.self.now stamp in
    let lists : Lists = record { things = c.args.self.now.things; files = c.args.self.now.files; binds = c.plan_bind.new.self } in
    answer_of desk c.args.now c.args.command (Bind c.in-Bind.class c.in-Bind.addr) lists c.of_binds.result c.in-Bind.is (c.of_binds.ensures desk c.args.now (bind_class_step c.in-Bind.class c.in-Bind.addr c.args.self.now.binds.binds) lists c.plan_bind.ensures.ok c.plan_bind.ensures.err)

pub returns-in-Unbind-clause-planned : goal.returns-in-Unbind-clause-planned
unfolding command_step binds_of
returns-in-Unbind-clause-planned c stamp =
    let desk : DeskTables = desk_with c.args.self.now stamp in
    let lists : Lists = record { things = c.args.self.now.things; files = c.args.self.now.files; binds = c.plan_unbind.new.self } in
    answer_of desk c.args.now c.args.command (Unbind c.in-Unbind.class c.in-Unbind.addr) lists c.of_binds-in-Unbind.result c.in-Unbind.is (c.of_binds-in-Unbind.ensures desk c.args.now (unbind_class_step c.in-Unbind.class c.in-Unbind.addr c.args.self.now.binds.binds) lists c.plan_unbind.ensures.ok c.plan_unbind.ensures.err)

pub returns-in-Import-clause-planned : goal.returns-in-Import-clause-planned
unfolding command_step
returns-in-Import-clause-planned c stamp =
    let desk : DeskTables = desk_with c.args.self.now stamp in
    let lists : Lists = record { things = c.args.self.now.things; files = c.plan_import.new.self; binds = c.args.self.now.binds } in
    let answer = c.of_files.ensures desk c.args.now (import_step c.octets-in-Import.result.now c.in-Import.fetched c.args.self.now.files.files) lists c.plan_import.ensures.ok c.plan_import.ensures.err in
    answer_of desk c.args.now c.args.command (Import c.in-Import.octets c.in-Import.fetched) lists c.of_files.result c.in-Import.is
    (subst (λ (o : List ℕ). IsAnswerIn desk c.args.now (by_files desk c.args.now (import_step o c.in-Import.fetched c.args.self.now.files.files)) lists c.of_files.result) c.octets-in-Import.ensures answer)

pub returns-in-Verdict-clause-planned : goal.returns-in-Verdict-clause-planned
unfolding command_step
returns-in-Verdict-clause-planned c stamp =
    let desk : DeskTables = desk_with c.args.self.now stamp in
    let lists : Lists = record { things = c.args.self.now.things; files = c.plan_verdict.new.self; binds = c.args.self.now.binds } in
    let answer = c.of_files-in-Verdict.ensures desk c.args.now (verdict_step c.in-Verdict.url c.octets-in-Verdict.result.now c.in-Verdict.verdict c.args.self.now.files.files) lists c.plan_verdict.ensures.ok c.plan_verdict.ensures.err in
    answer_of desk c.args.now c.args.command (Verdict c.in-Verdict.url c.in-Verdict.digest c.in-Verdict.verdict) lists c.of_files-in-Verdict.result c.in-Verdict.is
    (subst (λ (o : List ℕ). IsAnswerIn desk c.args.now (by_files desk c.args.now (verdict_step c.in-Verdict.url o c.in-Verdict.verdict c.args.self.now.files.files)) lists c.of_files-in-Verdict.result) c.octets-in-Verdict.ensures answer)

pub returns-in-Locals-clause-planned : goal.returns-in-Locals-clause-planned
unfolding command_step binds_of
returns-in-Locals-clause-planned c stamp =
    let desk : DeskTables = desk_with c.args.self.now stamp in
    let lists : Lists = record { things = c.args.self.now.things; files = c.args.self.now.files; binds = c.plan_locals.new.self } in
    let answer = c.of_binds-in-Locals.ensures desk c.args.now (set_locals_step c.as_slice.result.now c.args.self.now.binds.binds) lists c.plan_locals.ensures.ok c.plan_locals.ensures.err in
    answer_of desk c.args.now c.args.command (Locals c.in-Locals.prefixes) lists c.of_binds-in-Locals.result c.in-Locals.is
    (subst (λ (o : List Prefix). IsAnswerIn desk c.args.now (by_binds desk c.args.now (set_locals_step o c.args.self.now.binds.binds)) lists c.of_binds-in-Locals.result) c.as_slice.ensures answer)

pub returns-in-Observe-clause-planned : goal.returns-in-Observe-clause-planned
unfolding command_step binds_of
returns-in-Observe-clause-planned c stamp =
    let desk : DeskTables = desk_with c.args.self.now stamp in
    let lists : Lists = record { things = c.args.self.now.things; files = c.args.self.now.files; binds = c.plan_observe.new.self } in
    let answer = c.of_binds-in-Observe.ensures desk c.args.now (observe_name_step c.octets-in-Observe.result.now c.in-Observe.addr c.in-Observe.seconds c.args.now c.args.self.now.binds.binds) lists c.plan_observe.ensures.ok c.plan_observe.ensures.err in
    answer_of desk c.args.now c.args.command (Observe c.in-Observe.name c.in-Observe.addr c.in-Observe.seconds) lists c.of_binds-in-Observe.result c.in-Observe.is
    (subst (λ (o : List ℕ). IsAnswerIn desk c.args.now (by_binds desk c.args.now (observe_name_step o c.in-Observe.addr c.in-Observe.seconds c.args.now c.args.self.now.binds.binds)) lists c.of_binds-in-Observe.result) c.octets-in-Observe.ensures answer)
