-- The moment at which a store is listed.
use Rattle.std.specs.Prelude.{ℕ, max, Option, unwrap_or}

-- the later of the moment of the last change and of that which the clock gave; 0 in place of one that isn't there
unfoldable pub listing_moment : Option ℕ → Option ℕ → ℕ
listing_moment stamp clock = max (unwrap_or stamp 0) (unwrap_or clock 0)
