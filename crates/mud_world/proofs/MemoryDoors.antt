-- Laws of what a door in memory tells.
use Rattle.std.proofs.Common.{◌≡◌, ℕ, ◌-◌, ◌<◌, min, Bool, true, false, cond, ltb, Option, Some, List, [], ◌∷◌, ◌++◌, set, replicate, length-set, refl, sym, subst, length, take, drop, ap₂, map, get_or, ap, ◌∙◌, arith}
use Rattle.std.proofs.lemmas.List.{get_or-map, get_or-replicate, get_or_default, map-set, set-get_or, take-append-drop}
use Rattle.mud_world.specs.declared.memory_door.MemoryDoor.{MemoryDoor}
use Rattle.mud_world.specs.Door.{Connection, Took, put_out, bound_anew, connections, departed, gone_on, has_more, outputs, written_of}
use Rattle.mud_world.specs.Wire.{WireRead, WireState, connection_of, fresh, left_of, rest_of}
use Rattle.mud_world.specs.MemoryConnections.{connections_of, entered, room_of, state_at}
use Rattle.mud_world.specs.MemoryDoor.{memory_state, piece_left, pieces_here, room_left, wire_here}
use Rattle.mud_world.proofs.Doors.{put_here, took_here}
use Rattle.mud_world.proofs.Wires.{front_of_left, none_left}
use Rattle.mud_world.proofs.Connections.{ahead_at, bound_anew_at, changed_at, connections_at, departed_at, get_or-connections_of, gone_on_at, has_more_at, here_at, length-connections_of, nowhere, index_after}
use Rattle.mud_world.proofs.Parts.{connection_here}

-- its connections, each by its pieces and its wire
abbrev pub all_of : MemoryDoor → List Connection
all_of d = connections_of d.inputs d.wires.items

pub length-all_of : (d : MemoryDoor) → length (all_of d) ≡ length d.wires.items
length-all_of d = length-connections_of d.inputs d.wires.items d.wire_each

-- where it stands there is a connection
pub stands_at : (d : MemoryDoor) → d.stands ≡ true → d.at < length (all_of d)
stands_at d e = omega (arith, length-all_of d, d.stands_within e)

pub connections-memory_state : (d : MemoryDoor) → connections (memory_state d) ≡ all_of d
unfolding memory_state
connections-memory_state d = connections_at d.bound d.stands d.at (all_of d) (stands_at d)

pub length-connections : (d : MemoryDoor) → length (connections (memory_state d)) ≡ length d.wires.items
length-connections d = ap length (connections-memory_state d) ∙ length-all_of d

-- what was written to a connection
pub outputs-wire : (d : MemoryDoor) (i : ℕ) (w : WireState) → i < length d.wires.items → w ≡ get_or d.wires.items i w → get_or (outputs (memory_state d)) i [] ≡ w.written
outputs-wire d i w h e =
    let c : Connection = record { left = []; written = [] } in
    ap (λ (cs : List Connection). get_or (map written_of cs) i []) (connections-memory_state d)
    ∙ get_or-map written_of (all_of d) i c [] (omega (arith, length-all_of d))
    ∙ ap written_of (get_or-connections_of d.inputs d.wires.items i [] w c d.wire_each h)
    ∙ ap (λ (v : WireState). v.written) (sym e)

-- it stands where its state stands
stands-state_at : (bound : Option ℕ) (stands : Bool) (at : ℕ) (cs : List Connection) → (state_at bound stands at cs).stands ≡ stands
stands-state_at bound false at cs = refl
stands-state_at bound true at cs = stands-entered bound (take at cs) (drop at cs)
  where
    stands-entered : (bound : Option ℕ) (past cs : List Connection) → (entered bound past cs).stands ≡ true
    stands-entered bound past [] = refl
    stands-entered bound past (c ∷ cs) = refl

pub stands-memory_state : (d : MemoryDoor) → (memory_state d).stands ≡ d.stands
unfolding memory_state
stands-memory_state d = stands-state_at d.bound d.stands d.at (all_of d)

-- the connection at which it stands
pub here-memory_state : (d : MemoryDoor) (w : WireState) → d.stands ≡ true → w ≡ get_or d.wires.items d.at w → connection_here (memory_state d) ≡ connection_of (pieces_here d) w
unfolding memory_state
here-memory_state d w e is =
    ap (λ (stands : Bool). connection_here (state_at d.bound stands d.at (all_of d))) e
    ∙ here_at d.bound d.at (all_of d) nowhere (stands_at d e)
    ∙ get_or-connections_of d.inputs d.wires.items d.at [] w nowhere d.wire_each (d.stands_within e)
    ∙ ap (connection_of (pieces_here d)) (sym is)

-- each wire has the door's room
pub room-wire : (d : MemoryDoor) (i : ℕ) (w : WireState) → i < length d.wires.items → w ≡ get_or d.wires.items i w → w.room ≡ d.room
room-wire d i w h e =
    ap room_of e ∙ sym (get_or-map room_of d.wires.items i w 0 h)
    ∙ ap (λ (rooms : List ℕ). get_or rooms i 0) d.one_room ∙ get_or-replicate (length d.wires.items) i d.room 0 h

pub room_left-standing : (d : MemoryDoor) (w : WireState) → d.stands ≡ true → w ≡ get_or d.wires.items d.at w → room_left d ≡ w.room - length w.written
room_left-standing d w e is =
    ap (λ (stands : Bool). cond stands (d.room - length (memory_state d).written) 0) (stands-memory_state d ∙ e)
    ∙ ap₂ (λ (room : ℕ) (c : Connection). room - length c.written) (sym (room-wire d d.at w (d.stands_within e) is)) (here-memory_state d w e is)

pub room_left-nowhere : (d : MemoryDoor) → d.stands ≡ false → room_left d ≡ 0
room_left-nowhere d e =
    ap (λ (stands : Bool). cond stands (d.room - length (memory_state d).written) 0) (stands-memory_state d ∙ e)

-- what the calls make of its state
pub bound_anew_door : (d : MemoryDoor) (port : ℕ) → state_at (Some port) false d.at (all_of d) ≡ bound_anew port (memory_state d)
unfolding memory_state
bound_anew_door d port = sym (bound_anew_at port d.bound d.stands d.at (all_of d) (stands_at d))

pub departed_door : (d : MemoryDoor) (at : ℕ) → at ≡ index_after d.stands d.at → state_at d.bound false at (all_of d) ≡ departed (memory_state d)
unfolding memory_state
departed_door d at e =
    ap (λ (n : ℕ). state_at d.bound false n (all_of d)) e ∙ sym (departed_at d.bound d.stands d.at (all_of d) (stands_at d))

pub more_door : (d : MemoryDoor) (at : ℕ) → at ≡ index_after d.stands d.at → ltb at (length d.wires.items) ≡ has_more (memory_state d).ahead
unfolding memory_state
more_door d at e =
    ap₂ ltb e (sym (length-all_of d))
    ∙ sym (ap has_more (ahead_at d.bound d.stands d.at (all_of d) (stands_at d)) ∙ has_more_at (index_after d.stands d.at) (all_of d))

pub gone_on_door : (d : MemoryDoor) (at : ℕ) (stands : Bool) → at ≡ index_after d.stands d.at → stands ≡ ltb at (length d.wires.items) → state_at d.bound stands at (all_of d) ≡ gone_on (memory_state d) (memory_state d).ahead
unfolding memory_state
gone_on_door d at stands e now =
    let there : stands ≡ ltb (index_after d.stands d.at) (length (all_of d)) = now ∙ ap₂ ltb e (sym (length-all_of d)) in
    ap₂ (λ (b : Bool) (n : ℕ). state_at d.bound b n (all_of d)) there e
    ∙ sym (gone_on_at d.bound d.stands d.at (all_of d) (stands_at d))

-- nothing is left where it stands at no connection
pub left-nowhere : (d : MemoryDoor) → d.stands ≡ false → (memory_state d).left ≡ []
unfolding memory_state
left-nowhere d e = ap (λ (stands : Bool). (state_at d.bound stands d.at (all_of d)).left) e

-- the piece from which the next read takes
pub piece_left-standing : (d : MemoryDoor) (w : WireState) → d.stands ≡ true → w ≡ get_or d.wires.items d.at w → piece_left d ≡ rest_of w.offset (drop w.piece (pieces_here d))
unfolding piece_left
piece_left-standing d w e is =
    let rest = λ (v : WireState). rest_of v.offset (drop v.piece (pieces_here d)) in
    ap (λ (stands : Bool). cond stands (rest (wire_here d)) []) e
    ∙ ap rest (get_or_default d.wires.items d.at (fresh 0) w (d.stands_within e) ∙ sym is)

pub piece_left-nowhere : (d : MemoryDoor) → d.stands ≡ false → piece_left d ≡ []
unfolding piece_left
piece_left-nowhere d e = ap (λ (stands : Bool). cond stands (rest_of (wire_here d).offset (drop (wire_here d).piece (pieces_here d))) []) e

-- octets taken of the connection at which it stands
pub took_door : (d : MemoryDoor) (w v : WireState) (n : ℕ) (octets : List ℕ) → d.stands ≡ true → w ≡ get_or d.wires.items d.at w
    → octets ≡ take n (left_of w.offset (drop w.piece (pieces_here d))) → left_of v.offset (drop v.piece (pieces_here d)) ≡ drop n (left_of w.offset (drop w.piece (pieces_here d))) → v.written ≡ w.written
    → Took octets (memory_state d) (state_at d.bound d.stands d.at (connections_of d.inputs (set d.wires.items d.at v)))
unfolding memory_state
took_door d w v n octets e is taken left written =
    let here = here-memory_state d w e is in
    let all = left_of w.offset (drop w.piece (pieces_here d)) in
    took_here octets (connection_of (pieces_here d) v) (memory_state d) _
    (changed_at d.bound d.stands d.at d.inputs d.wires.items v e d.wire_each (d.stands_within e))
    (ap (λ (c : Connection). c.left) here ∙ sym (ap₂ ◌++◌ taken left ∙ take-append-drop n all))
    (written ∙ sym (ap (λ (c : Connection). c.written) here))

-- octets written to the connection at which it stands
pub put_door : (d : MemoryDoor) (w v : WireState) (octets : List ℕ) → d.stands ≡ true → w ≡ get_or d.wires.items d.at w
    → v.piece ≡ w.piece → v.offset ≡ w.offset → v.written ≡ w.written ++ octets
    → state_at d.bound d.stands d.at (connections_of d.inputs (set d.wires.items d.at v)) ≡ put_out octets (memory_state d)
unfolding memory_state
put_door d w v octets e is piece offset written =
    let here = here-memory_state d w e is in
    put_here octets (connection_of (pieces_here d) v) (memory_state d) _
    (changed_at d.bound d.stands d.at d.inputs d.wires.items v e d.wire_each (d.stands_within e))
    (ap₂ (λ (n m : ℕ). left_of n (drop m (pieces_here d))) offset piece ∙ sym (ap (λ (c : Connection). c.left) here))
    (written ∙ ap (λ (front : List ℕ). front ++ octets) (sym (ap (λ (c : Connection). c.written) here)))

-- a wire that keeps its room
pub room-set : (d : MemoryDoor) (i : ℕ) (w v : WireState) → i < length d.wires.items → w ≡ get_or d.wires.items i w → v.room ≡ w.room → map room_of (set d.wires.items i v) ≡ replicate (length (set d.wires.items i v)) d.room
room-set d i w v h is same =
    let same_wire : v.room ≡ get_or (map room_of d.wires.items) i 0 = same ∙ ap room_of is ∙ sym (get_or-map room_of d.wires.items i w 0 h) in
    map-set room_of d.wires.items i v
    ∙ ap (set (map room_of d.wires.items) i) same_wire ∙ set-get_or (map room_of d.wires.items) i 0
    ∙ d.one_room ∙ ap (λ (n : ℕ). replicate n d.room) (sym (length-set d.wires.items i v))

-- a read at the connection where it stands
pub read_door : (d : MemoryDoor) (pieces : List (List ℕ)) (w v : WireState) (n : ℕ) (buf : List ℕ) → d.stands ≡ true → pieces ≡ pieces_here d → w ≡ get_or d.wires.items d.at w → WireRead pieces w v n buf
    → Took (take n buf) (memory_state d) (state_at d.bound d.stands d.at (connections_of d.inputs (set d.wires.items d.at v))) × (n ≡ 0 → 0 < length buf → (memory_state d).left ≡ [])
read_door d pieces w v n buf e at is read =
    let r = subst (λ (ps : List (List ℕ)). WireRead ps w v n buf) at read in
    let from = drop w.piece (pieces_here d) in (
      took_door d w v n (take n buf) e is (r.octets ∙ front_of_left n w.offset from (omega (arith, r.count))) r.left r.written,
      λ none room. ap (λ (c : Connection). c.left) (here-memory_state d w e is) ∙ none_left w.offset from (omega (arith, r.count)),
    )

pub count_door : (d : MemoryDoor) (pieces : List (List ℕ)) (w v : WireState) (n : ℕ) (buf : List ℕ) → d.stands ≡ true → pieces ≡ pieces_here d → w ≡ get_or d.wires.items d.at w → WireRead pieces w v n buf → n ≡ min (length buf) (length (piece_left d))
count_door d pieces w v n buf e at is read =
    (subst (λ (ps : List (List ℕ)). WireRead ps w v n buf) at read).count
    ∙ ap (λ (octets : List ℕ). min (length buf) (length octets)) (sym (piece_left-standing d w e is))
