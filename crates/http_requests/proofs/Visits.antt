-- Connections served one after the other, at each place of the loop that serves them.
use Rattle.std.proofs.Common.{◌≡◌, ℕ, zero, suc, ◌+◌, ◌-◌, ◌^◌, min, IsTrue, Bool, true, false, cond, List, [], ◌∷◌, ◌++◌, length, map, refl, inl, inr, sym, ap, ap₂, ◌∙◌, subst, arith, append_assoc, length-append}
use Rattle.std.specs.List.{count_by}
use Rattle.std.proofs.lemmas.List.{map-append}
use Rattle.std.proofs.lemmas.List.Sums.{sum_by-append}
use Rattle.mud_world.specs.Causes.{Counts}
use Rattle.mud_world.specs.View.{DoorView}
use Rattle.mud_world.specs.Door.{Connection, DoorState, here, gone_on, has_more, put_out, with_left}
use Rattle.http_requests.specs.declared.fault.RequestFault.{RequestFault}
use Rattle.http_requests.specs.declared.fault.MomentFrom.{MomentFrom}
use Rattle.http_requests.specs.Doors.{ReadsAndWrites}
use Rattle.http_requests.specs.Requests.{Request, Ending}
use Rattle.http_requests.specs.Serving.{Exchanged, Served}
use Rattle.http_requests.specs.declared.end.ConnectionEnd.{ConnectionEnd}
use Rattle.http_requests.specs.declared.end.ConnectionEnd.TheVariants.{Ended, Closed, Broken, Spent, ReadFailed, WriteFailed}
use Rattle.http_requests.specs.Asked.{Asked}
use Rattle.http_requests.specs.Ends.{ServedBy, IsServed, is_read_failed, is_write_failed}
use Rattle.http_requests.specs.Visits.{Visit, alone, count_behind, AreServed, Visited}
use Rattle.http_requests.proofs.Pieces.{after_of, before_of, failed_to_read, failed_to_write}
use Rattle.mud_world.proofs.Parts.{connection_here}

-- ---- Counts

behind_last : (failures a b c : ℕ) → b ≡ count_behind failures a → c ≡ min (b + 1) (2 ^ 64 - 1) → c ≡ count_behind (failures + 1) a
behind_last zero a b c before last =
    let same : b ≡ a = before in
    let risen : c ≡ min (a + 1) (2 ^ 64 - 1) = omega (arith, same, last) in
    risen
behind_last (suc failures) a b c before last =
    let so_far : b ≡ min (a + suc failures) (2 ^ 64 - 1) = before in
    let risen : c ≡ min (a + suc (suc failures)) (2 ^ 64 - 1) = omega (arith, so_far, last) in
    let one_more : suc (suc failures) ≡ suc failures + 1 = omega arith in
    risen ∙ ap (λ n. count_behind n a) one_more

counts_next : (failures : ℕ) (failed : Bool) (a b c : ℕ) → b ≡ count_behind failures a → Counts failed b c → (IsTrue failed → c ≡ min (b + 1) (2 ^ 64 - 1)) → c ≡ count_behind (failures + cond failed 1 0) a
counts_next failures true a b c before counts last = behind_last failures a b c before (last refl)
counts_next failures false a b c before counts last = counts.steady refl ∙ before ∙ ap (λ n. count_behind n a) (omega arith)

counted : (test : Visit → Bool) (visits : List Visit) (v : Visit) → count_by test (visits ++ v ∷ []) ≡ count_by test visits + cond (test v) 1 0
counted test visits v = sum_by-append (λ w. cond (test w) 1 0) visits (v ∷ []) ∙ ap (λ n. count_by test visits + n) (omega arith)

pub counts_more : (test : Visit → Bool) (visits : List Visit) (v : Visit) (failed : Bool) (a b b' c : ℕ) → test v ≡ failed → b' ≡ b → b ≡ count_behind (count_by test visits) a → Counts failed b' c
    → (IsTrue failed → c ≡ min (b' + 1) (2 ^ 64 - 1)) → c ≡ count_behind (count_by test (visits ++ v ∷ [])) a
counts_more test visits v failed a b b' c is same before counts last =
    counts_next (count_by test visits) failed a b' c (same ∙ before) counts last
    ∙ ap (λ f. count_behind (count_by test visits + cond f 1 0) a) (sym is)
    ∙ ap (λ n. count_behind n a) (sym (counted test visits v))

-- ---- A connection by itself

-- what changed is the connection
Changed : DoorState → DoorState → Type 0
Changed old new = (octets : List ℕ) × (new ≡ put_out octets (with_left new.left old))

module _ {S : Type 0} (may : S → Asked → List ℕ → S → Type 0) (refusal : RequestFault → List ℕ) (from : MomentFrom) where
  changed_by : (end : ConnectionEnd) (s t : S) (old new : DoorState) → ServedBy may refusal from end s t old new → Changed old new
  unfolding Changed
  changed_by Ended s t old new x = (_, x.done.state)
  changed_by Closed s t old new x = (_, x.done.state)
  changed_by Broken s t old new x = (_, x.served.done.state)
  changed_by Spent s t old new x = (_, x.done.state)
  changed_by ReadFailed s t old new x = (_, x.done.state)
  changed_by WriteFailed s t old new (inl x) = (_, x.done.state)
  changed_by WriteFailed s t old new (inr x) = (_, x.done.state)

  abbrev exchanged_alone : (A : List Request → List ℕ → Type 0) (last : List ℕ) (old new : DoorState) → Exchanged A last old new → Exchanged A last (alone (connection_here old)) (alone (connection_here new))
  exchanged_alone A last old new x = record {
    requests = x.requests;
    answers = x.answers;
    run = x.run;
    taken = x.taken;
    took = x.took;
    state = ap (λ (s : DoorState). alone (connection_here s)) x.state;
  }

  served_alone : (A : List Request → List ℕ → Type 0) (end : Ending) (last : List ℕ) (old new : DoorState) → Served A from end last old new → Served A from end last (alone (connection_here old)) (alone (connection_here new))
  served_alone A end last old new x = record { done = exchanged_alone A last old new x.done; reads = x.reads }

  alone_by : (end : ConnectionEnd) (s t : S) (old new : DoorState) → ServedBy may refusal from end s t old new → ServedBy may refusal from end s t (alone (connection_here old)) (alone (connection_here new))
  alone_by Ended s t old new x = served_alone _ _ _ old new x
  alone_by Closed s t old new x = served_alone _ _ _ old new x
  alone_by Broken s t old new x = record { fault = x.fault; pending = x.pending; served = served_alone _ _ _ old new x.served }
  alone_by Spent s t old new x = served_alone _ _ _ old new x
  alone_by ReadFailed s t old new x = record {
    pending = x.pending;
    done = exchanged_alone _ _ old new x.done;
    more = x.more;
    rest = x.rest;
    goes_on = x.goes_on;
    awaits = x.awaits;
  }
  alone_by WriteFailed s t old new (inl x) = inl (record {
    piece = x.piece;
    count = x.count;
    part = x.part;
    done = exchanged_alone _ _ old new x.done;
    more = x.more;
    rest = x.rest;
    goes_on = x.goes_on;
    next = x.next;
  })
  alone_by WriteFailed s t old new (inr x) = inr (record {
    text = x.text;
    count = x.count;
    part = x.part;
    done = exchanged_alone _ _ old new x.done;
    more = x.more;
    rest = x.rest;
    goes_on = x.goes_on;
    request = x.request;
    behind = x.behind;
    next = x.next;
    ran = x.ran;
  })

  -- ---- Connection after connection

  are_served_more : (s t u : S) (visits : List Visit) (v : Visit) → AreServed may refusal from s t visits → ServedBy may refusal from v.end t u (alone v.before) (alone v.after)
      → AreServed may refusal from s u (visits ++ v ∷ [])
  are_served_more s t u [] v same by = (u, subst (λ at. ServedBy may refusal from v.end at u (alone v.before) (alone v.after)) (sym same) by, refl)
  are_served_more s t u (w ∷ visits) v are by = (are.0, are.1, are_served_more are.0 t u visits v are.2 by)

  stands_here : (z : DoorState) → z.stands ≡ true → here z ≡ connection_here z ∷ []
  stands_here z stands = ap (λ (b : Bool). cond b (connection_here z ∷ []) []) stands

  -- the next connection came and was served
  visited_one : (keeps keeps' : S → Type 0) (end : ConnectionEnd) (s : S) (visits : List Visit) (old x y z : DoorState) (c : Connection) (cs : List Connection) → (p : Visited may refusal from keeps s visits old x)
      → x.ahead ≡ c ∷ cs → y ≡ gone_on x (c ∷ cs) → (next : S) → keeps' next → ServedBy may refusal from end p.next next y z
      → Visited may refusal from keeps' s (visits ++ record { before = c; after = connection_here z; end = end } ∷ []) old z
  unfolding Changed
  visited_one keeps keeps' end s visits old x y z c cs p comes went next kept by =
      let v : Visit = record { before = c; after = connection_here z; end = end } in
      let change = changed_by end p.next next y z by in
      let past : z.past ≡ x.past ++ here x = ap (λ (d : DoorState). d.past) change.1 ∙ ap (λ (d : DoorState). d.past) went in
      let stands : z.stands ≡ true = ap (λ (d : DoorState). d.stands) change.1 ∙ ap (λ (d : DoorState). d.stands) went in
      let ahead : z.ahead ≡ cs = ap (λ (d : DoorState). d.ahead) change.1 ∙ ap (λ (d : DoorState). d.ahead) went in
      let at : connection_here y ≡ c = ap connection_here went in
      record {
        next = next;
        kept = kept;
        served = are_served_more s p.next next visits v p.served
            (subst (λ d. ServedBy may refusal from end p.next next (alone d) (alone (connection_here z))) at (alone_by end p.next next y z by));
        came = p.came ∙ ap (λ more. map before_of visits ++ more) (comes ∙ ap (λ more. c ∷ more) (sym ahead))
            ∙ sym (append_assoc (map before_of visits) (c ∷ []) z.ahead)
            ∙ ap (λ front. front ++ z.ahead) (sym (map-append before_of visits (v ∷ [])));
        past = ap₂ ◌++◌ past (stands_here z stands)
            ∙ ap (λ front. front ++ connection_here z ∷ []) p.past
            ∙ append_assoc (old.past ++ here old) (map after_of visits) (connection_here z ∷ [])
            ∙ ap (λ more. (old.past ++ here old) ++ more) (sym (map-append after_of visits (v ∷ [])));
        bound = ap (λ (d : DoorState). d.bound) change.1 ∙ ap (λ (d : DoorState). d.bound) went ∙ p.bound;
      }

  -- ---- The loop

  -- So many connections were served.
  pub record Rounds (keeps : S → Type 0) (count : ℕ) (s : S) (old new : DoorView) : Type 0 where
    pub visits : List Visit
    pub visited : Visited may refusal from keeps s visits old.state new.state
    pub counted : length visits ≡ count
    pub reads : new.reads ≡ count_behind (count_by failed_to_read visits) old.reads
    pub writes : new.writes ≡ count_behind (count_by failed_to_write visits) old.writes

  pub rounds_more : (keeps keeps' : S → Type 0) (end : ConnectionEnd) (count : ℕ) (s : S) (old x y z : DoorView) → Rounds keeps count s old x
      → has_more x.state.ahead ≡ true → y.state ≡ gone_on x.state x.state.ahead → ((at : S) → keeps at → IsServed may refusal from keeps' end at y z)
      → y.reads ≡ x.reads → y.writes ≡ x.writes → ReadsAndWrites (is_read_failed end) (is_write_failed end) y z → Rounds keeps' (count + 1) s old z
  rounds_more keeps keeps' end count s old x y z p more went by same_reads same_writes calls = at_next x.state.ahead refl more
    where
      at_next : (cs : List Connection) → x.state.ahead ≡ cs → has_more cs ≡ true → Rounds keeps' (count + 1) s old z
      at_next [] none some = cc
      at_next (c ∷ cs) comes some =
          let v : Visit = record { before = c; after = connection_here z.state; end = end } in
          let served = by p.visited.next p.visited.kept in
          record {
            visits = p.visits ++ v ∷ [];
            visited = visited_one keeps keeps' end s p.visits old.state x.state y.state z.state c cs p.visited comes (went ∙ ap (gone_on x.state) comes) served.next served.kept served.served;
            counted = omega (arith, p.counted, length-append p.visits (v ∷ []));
            reads = counts_more failed_to_read p.visits v (is_read_failed end) old.reads x.reads y.reads z.reads refl same_reads p.reads calls.reads (λ failed. (calls.read_stop failed).once);
            writes = counts_more failed_to_write p.visits v (is_write_failed end) old.writes x.writes y.writes z.writes refl same_writes p.writes calls.writes (λ failed. (calls.write_stop failed).once);
          }
