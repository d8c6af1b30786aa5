use Rattle.std.proofs.Common.{refl}
use Rattle.matchit.proofs.OnLiterals.{matchit_on_literals}
use Rattle.console_routes.specs.Routes.{text_of}
use Rattle.console_routes.specs.Table.{table}
use Rattle.console_routes.proofs.lookup.add_all.Goals as goal

-- src/lookup.rt:43:1
pub returns : goal.returns
unfolding matchit_on_literals text_of table
returns c = rw (c.in_ok-add-14.ensures.1, c.in_ok-add-13.ensures.1, c.in_ok-add-12.ensures.1, c.in_ok-add-11.ensures.1, c.in_ok-add-10.ensures.1, c.in_ok-add-9.ensures.1, c.in_ok-add-8.ensures.1, c.in_ok-add-7.ensures.1, c.in_ok-add-6.ensures.1, c.in_ok-add-5.ensures.1, c.in_ok-add-4.ensures.1, c.in_ok-add-3.ensures.1, c.in_ok-add-2.ensures.1, c.in_ok-add.ensures.1, c.requires) refl
