use Rattle.std.proofs.Common.{◌≡◌, drop}
use Rattle.std.specs.List.{filter_map}
use Rattle.acl_model.specs.Keys.{key_of}
use Rattle.acl_changes.proofs.keys.first_key.Given as goal

abbrev pub invariant-loop-selector : goal.invariant-loop-selector
invariant-loop-selector l = record {
  keys : filter_map (key_of l.url) l.selectors ≡ filter_map (key_of l.url) (drop l.selector-index l.selectors);
  next : l.next ≡ l.selector-index;
}
