-- Laws of the connections of a door in memory.
use Rattle.std.proofs.Common.{◌≡◌, ℕ, zero, suc, append_assoc, ◌+◌, ◌<◌, Bool, true, false, cond, ltb, Option, Some, List, [], ◌∷◌, ◌++◌, length, take, drop, map, get_or, set, replicate, refl, inl, inr, sym, ap, ap₂, ◌∙◌, arith, length-set}
use Rattle.std.proofs.lemmas.List.{append-nil, drop_more, drop_all, take_more, take-append-drop, take-set, drop-set-lt, get_or-set_same}
use Rattle.std.proofs.lemmas.Bool.{cases_lt, false≢true, le-ltb, lt-ltb}
use Rattle.mud_world.specs.Door.{Connection, DoorState, connections, departed, gone_on, bound_anew, has_more}
use Rattle.mud_world.specs.Wire.{WireState, connection_of, fresh}
use Rattle.mud_world.specs.MemoryConnections.{connections_of, entered, new_connection, room_of, state_at}
use Rattle.mud_world.proofs.Parts.{connection_here, with_here}

pub length-connections_of : (inputs : List (List (List ℕ))) (wires : List WireState) → length wires ≡ length inputs → length (connections_of inputs wires) ≡ length wires
length-connections_of [] [] e = refl
length-connections_of [] (w ∷ ws) e = absurd (omega arith)
length-connections_of (p ∷ ps) [] e = refl
length-connections_of (p ∷ ps) (w ∷ ws) e = ap suc (length-connections_of ps ws (omega arith))

-- the connection at an index
pub get_or-connections_of : (inputs : List (List (List ℕ))) (wires : List WireState) (i : ℕ) (p : List (List ℕ)) (w : WireState) (c : Connection) → length wires ≡ length inputs → i < length wires → get_or (connections_of inputs wires) i c ≡ connection_of (get_or inputs i p) (get_or wires i w)
get_or-connections_of [] [] i p w c e h = absurd (omega arith)
get_or-connections_of [] (v ∷ vs) i p w c e h = absurd (omega arith)
get_or-connections_of (q ∷ qs) [] i p w c e h = absurd (omega arith)
get_or-connections_of (q ∷ qs) (v ∷ vs) zero p w c e h = refl
get_or-connections_of (q ∷ qs) (v ∷ vs) (suc i) p w c e h = get_or-connections_of qs vs i p w c (omega arith) (omega arith)

-- one wire changed
pub connections_of-set : (inputs : List (List (List ℕ))) (wires : List WireState) (i : ℕ) (p : List (List ℕ)) (w : WireState) → length wires ≡ length inputs → i < length wires → connections_of inputs (set wires i w) ≡ set (connections_of inputs wires) i (connection_of (get_or inputs i p) w)
connections_of-set [] [] i p w e h = absurd (omega arith)
connections_of-set [] (v ∷ vs) i p w e h = absurd (omega arith)
connections_of-set (q ∷ qs) [] i p w e h = absurd (omega arith)
connections_of-set (q ∷ qs) (v ∷ vs) zero p w e h = refl
connections_of-set (q ∷ qs) (v ∷ vs) (suc i) p w e h = ap (λ (cs : List Connection). connection_of q v ∷ cs) (connections_of-set qs vs i p w (omega arith) (omega arith))

-- wires of which nothing was taken
pub connections_of-fresh : (inputs : List (List (List ℕ))) (room : ℕ) → connections_of inputs (replicate (length inputs) (fresh room)) ≡ map new_connection inputs
connections_of-fresh [] room = refl
connections_of-fresh (p ∷ ps) room = ap (λ (cs : List Connection). new_connection p ∷ cs) (connections_of-fresh ps room)

-- two empty lists
pub nowhere : Connection
nowhere = record { left = []; written = [] }

before : Option ℕ → List Connection → List Connection → DoorState
before bound past ahead = record { bound = bound; stands = false; past = past; left = []; written = []; ahead = ahead }

-- the index behind the one at which the door stands
abbrev pub index_after : Bool → ℕ → ℕ
index_after stands at = cond stands (at + 1) at

-- a door that stands at a connection
pub state_standing : (bound : Option ℕ) (at : ℕ) (cs : List Connection) (c : Connection) → at < length cs → state_at bound true at cs ≡ entered bound (take at cs) (get_or cs at c ∷ drop (at + 1) cs)
state_standing bound at cs c h = ap (entered bound (take at cs)) (drop_more cs at c h)

-- all connections of a door, wherever it stands
pub connections_at : (bound : Option ℕ) (stands : Bool) (at : ℕ) (cs : List Connection) → (stands ≡ true → at < length cs) → connections (state_at bound stands at cs) ≡ cs
connections_at bound false at cs h =
    ap (λ (front : List Connection). front ++ drop at cs) (append-nil (take at cs)) ∙ take-append-drop at cs
connections_at bound true at [] h = absurd (omega (arith, h refl))
connections_at bound true at (c ∷ cs) h =
    ap connections (state_standing bound at (c ∷ cs) c (h refl))
    ∙ append_assoc (take at (c ∷ cs)) (get_or (c ∷ cs) at c ∷ []) (drop (at + 1) (c ∷ cs))
    ∙ ap (λ (rest : List Connection). take at (c ∷ cs) ++ rest) (sym (drop_more (c ∷ cs) at c (h refl)))
    ∙ take-append-drop at (c ∷ cs)

-- a door that leaves its connection stands before the next one
pub departed_at : (bound : Option ℕ) (stands : Bool) (at : ℕ) (cs : List Connection) → (stands ≡ true → at < length cs) → departed (state_at bound stands at cs) ≡ state_at bound false (index_after stands at) cs
unfolding before
departed_at bound false at cs h = ap (λ (front : List Connection). before bound front (drop at cs)) (append-nil (take at cs))
departed_at bound true at [] h = absurd (omega (arith, h refl))
departed_at bound true at (c ∷ cs) h =
    ap departed (state_standing bound at (c ∷ cs) c (h refl))
    ∙ ap (λ (front : List Connection). before bound front (drop (at + 1) (c ∷ cs))) (sym (take_more (c ∷ cs) at c (h refl)))

-- the connections that come
pub ahead_at : (bound : Option ℕ) (stands : Bool) (at : ℕ) (cs : List Connection) → (stands ≡ true → at < length cs) → (state_at bound stands at cs).ahead ≡ drop (index_after stands at) cs
ahead_at bound false at cs h = refl
ahead_at bound true at [] h = absurd (omega (arith, h refl))
ahead_at bound true at (c ∷ cs) h = ap (λ (s : DoorState). s.ahead) (state_standing bound at (c ∷ cs) c (h refl))

-- whether there is a connection from an index on
pub has_more_at : (at : ℕ) (cs : List Connection) → has_more (drop at cs) ≡ ltb at (length cs)
has_more_at at cs =
    elim (cases_lt at (length cs)) [
      | inl within ↦ ap has_more (drop_more cs at nowhere within) ∙ sym (lt-ltb at (length cs) within)
      | inr past ↦ ap has_more (drop_all at cs past) ∙ sym (le-ltb at (length cs) past)
    ]

-- what going on makes of a door, wherever it stands
pub gone_on_at : (bound : Option ℕ) (stands : Bool) (at : ℕ) (cs : List Connection) → (stands ≡ true → at < length cs) → gone_on (state_at bound stands at cs) (state_at bound stands at cs).ahead ≡ state_at bound (ltb (index_after stands at) (length cs)) (index_after stands at) cs
gone_on_at bound stands at cs h =
    let index = index_after stands at in
    let s = state_at bound stands at cs in
    let left : departed s ≡ state_at bound false index cs = departed_at bound stands at cs h in
    elim (cases_lt index (length cs)) [
      | inl within ↦
          let c = get_or cs index nowhere in
          ap (gone_on s) (ahead_at bound stands at cs h ∙ drop_more cs index nowhere within)
          ∙ ap (λ (t : DoorState). entered t.bound t.past (c ∷ drop (index + 1) cs)) left
          ∙ sym (state_standing bound index cs nowhere within)
          ∙ ap (λ (now : Bool). state_at bound now index cs) (sym (lt-ltb index (length cs) within))
      | inr past ↦
          ap (gone_on s) (ahead_at bound stands at cs h ∙ drop_all index cs past)
          ∙ left
          ∙ ap (λ (now : Bool). state_at bound now index cs) (sym (le-ltb index (length cs) past))
    ]

-- a door that is bound anew
pub bound_anew_at : (port : ℕ) (bound : Option ℕ) (stands : Bool) (at : ℕ) (cs : List Connection) → (stands ≡ true → at < length cs) → bound_anew port (state_at bound stands at cs) ≡ state_at (Some port) false at cs
unfolding before
bound_anew_at port bound false at cs h = refl
bound_anew_at port bound true at [] h = absurd (omega (arith, h refl))
bound_anew_at port bound true at (c ∷ cs) h =
    ap (bound_anew port) (state_standing bound at (c ∷ cs) c (h refl))
    ∙ ap (before (Some port) (take at (c ∷ cs))) (sym (drop_more (c ∷ cs) at c (h refl)))

-- another connection at the index where the door stands
pub with_here_at : (bound : Option ℕ) (at : ℕ) (cs : List Connection) (c : Connection) → at < length cs → state_at bound true at (set cs at c) ≡ with_here c (state_at bound true at cs)
with_here_at bound at cs c h =
    let within : at < length (set cs at c) = omega (arith, length-set cs at c) in
    state_standing bound at (set cs at c) c within
    ∙ ap (entered bound (take at (set cs at c))) (ap₂ ◌∷◌ (get_or-set_same cs at c c h) (drop-set-lt (at + 1) cs at c (omega arith)))
    ∙ ap (λ (front : List Connection). entered bound front (c ∷ drop (at + 1) cs)) (take-set cs at c)
    ∙ sym (ap (with_here c) (state_standing bound at cs c h))

-- the connection at which the door stands
pub here_at : (bound : Option ℕ) (at : ℕ) (cs : List Connection) (c : Connection) → at < length cs → connection_here (state_at bound true at cs) ≡ get_or cs at c
here_at bound at cs c h = ap connection_here (state_standing bound at cs c h)

-- wires of which nothing was taken have one room
pub rooms-fresh : (n room : ℕ) → map room_of (replicate n (fresh room)) ≡ replicate n room
rooms-fresh zero room = refl
rooms-fresh (suc n) room = ap (λ (rooms : List ℕ). room ∷ rooms) (rooms-fresh n room)

-- one wire changed, where the door stands
pub changed_at : (bound : Option ℕ) (stands : Bool) (at : ℕ) (inputs : List (List (List ℕ))) (wires : List WireState) (w : WireState) → stands ≡ true → length wires ≡ length inputs → at < length wires → state_at bound stands at (connections_of inputs (set wires at w)) ≡ with_here (connection_of (get_or inputs at []) w) (state_at bound stands at (connections_of inputs wires))
changed_at bound false at inputs wires w e each h = absurd (false≢true e)
changed_at bound true at inputs wires w e each h =
    ap (state_at bound true at) (connections_of-set inputs wires at [] w each h)
    ∙ with_here_at bound at (connections_of inputs wires) (connection_of (get_or inputs at []) w) (omega (arith, length-connections_of inputs wires each))
