-- What may be observed may be asked of a desk, and what a reply leaves.
use Rattle.std.proofs.Common.{◌≡◌, ℕ, List, refl, subst}
use Rattle.std.proofs.lemmas.Slice.Eq.{bytes_eq-Decides}
use Rattle.mud_base.specs.declared.addr.Addr.{Addr}
use Rattle.table_model.specs.Binds.{is_name}
use Rattle.desk_model.specs.declared.command.Command.{Command}
use Rattle.desk_model.specs.declared.command.Command.TheVariants.{Observe}
use Rattle.desk_model.specs.declared.reply.Reply.{Reply}
use Rattle.desk_model.specs.declared.reply.Reply.TheVariants.{Memory}
use Rattle.desk_model.specs.Commands.{IsAsked}
use Rattle.desk_model.specs.Sessions.{Session, AllowedReply}
use Rattle.dns_snoop.specs.Observed.{IsObservable}

pub may_be_asked : (name : List ℕ) (row : Addr × ℕ) → IsObservable name row → IsAsked (Observe name row.0 row.1)
unfolding is_name
may_be_asked name row may = (rw (may.host, may.lower) ((bytes_eq-Decides name name).1 refl), may.some, may.few)

-- want of memory leaves all as it was
pub memory_leaves : (before : Session) (now : ℕ) (command : Command) (reply : Reply) (after : Session) → AllowedReply before now command reply after → reply ≡ Memory → after ≡ before
unfolding AllowedReply
memory_leaves before now command reply after may is = of reply is may
  where
    of : (reply : Reply) → reply ≡ Memory → AllowedReply before now command reply after → after ≡ before
    of reply is may = subst (λ (r : Reply). AllowedReply before now command r after) is may
