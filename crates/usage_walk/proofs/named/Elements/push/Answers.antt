use Rattle.usage_walk.proofs.NamedLists.{index_push, index_lacks}
use Rattle.usage_walk.proofs.named.Elements.push.Goals as goal

pub invariant_of-self-in-Ok : goal.invariant_of-self-in-Ok
invariant_of-self-in-Ok c =
    let new = index_lacks c.self.inside.by_name c.self.inside.elements.items c.args.name.now _ c.self.invariant c.contains_key.ensures c.if-contains_key.false in
    rw c.in_ok-push.ensures.items (index_push c.self.inside.by_name c.insert.new.self _ _ c.self.invariant new c.in-Ok.ensures.updates)
