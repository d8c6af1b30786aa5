-- Who began a connection, by what was forwarded before.
use Rattle.std.proofs.Common.{◌≡◌, List, [], Option, Some, None, if◌then◌else◌, refl, inl, inr}
use Rattle.mud_base.specs.declared.packet.Fields.{Fields}
use Rattle.mud_base.specs.declared.packet.Direction.TheVariants.{From, To}
use Rattle.table_model.specs.History.{Endpoint, Segment, Begun, Flows, begun_of, is_between, with_packet, begun_between, last_packet_at, MayKeep, StandsFor}
use Rattle.table_model.proofs.Literals.{flows_compute, tcp, call, answer, back_call, bulb_addr, test_addr}

-- the call was forwarded at 1001
abbrev called : List Segment
called = with_packet [] call 1001

-- ---- A reset ends it

abbrev reset : Fields
reset = tcp bulb_addr 50000 test_addr 443 4

before_reset : begun_of called From reset 1001 ≡ Some From
unfolding flows_compute
before_reset = refl

after_reset : begun_of (with_packet called reset 1001) To answer 1001 ≡ None
unfolding flows_compute
after_reset = refl

-- and a new call begins it anew
called_again : begun_of (with_packet (with_packet called reset 1001) call 1002) To answer 1003 ≡ Some From
unfolding flows_compute
called_again = refl

-- ---- A pause of more than 7,440 seconds ends it

longest_pause : begun_of called To answer 8441 ≡ Some From
unfolding flows_compute
longest_pause = refl

longer_pause : begun_of called To answer 8442 ≡ None
unfolding flows_compute
longer_pause = refl

-- each packet that is forwarded keeps it up
kept_up : begun_of (with_packet called answer 8441) To answer 15881 ≡ Some From
unfolding flows_compute
kept_up = refl

-- a pause isn't mended by later packets
past_pause : begun_of (with_packet called answer 8442) To answer 8443 ≡ None
unfolding flows_compute
past_pause = refl

-- ---- The endpoints

-- the other side sees that its peer began
seen_from_server : begun_of called From answer 1001 ≡ Some To
unfolding flows_compute
seen_from_server = refl

-- another port is another connection
other_port : begun_of called To (tcp test_addr 443 bulb_addr 50001 0x12) 1001 ≡ None
unfolding flows_compute
other_port = refl

-- the last that opens counts
both_opened : begun_of (with_packet called back_call 1002) From (tcp bulb_addr 50000 test_addr 443 0x10) 1003 ≡ Some To
unfolding flows_compute
both_opened = refl

-- a packet that opens is begun by its source, whatever came before
opened_again : begun_of (with_packet called back_call 1002) From call 1003 ≡ Some From
unfolding flows_compute
opened_again = refl

-- ---- Tables of connections

abbrev no_flows : Flows
no_flows = record { last = None; kept = λ a b. None }

-- the new table stands for the empty history
nothing_noted : StandsFor [] no_flows
unfolding flows_compute
nothing_noted = record { forward = refl; last = refl; kept = λ a b. refl }

abbrev the_call : Segment
the_call = record { source = (bulb_addr, 50000); destination = (test_addr, 443); flags = 2; at = 1001 }

abbrev kept_of_call : Endpoint → Endpoint → Option Begun
kept_of_call a b = if is_between a b the_call then Some ((bulb_addr, 50000), 1001) else None

abbrev one_flow : Flows
one_flow = record { last = Some 1001; kept = kept_of_call }

-- it keeps who began, with the moment of the last packet
call_noted : MayKeep (last_packet_at called) (begun_between called (bulb_addr, 50000) (test_addr, 443)) (one_flow.kept (bulb_addr, 50000) (test_addr, 443))
unfolding flows_compute
call_noted = inl refl

-- of the endpoints in either order
turned_noted : MayKeep (last_packet_at called) (begun_between called (test_addr, 443) (bulb_addr, 50000)) (one_flow.kept (test_addr, 443) (bulb_addr, 50000))
unfolding flows_compute
turned_noted = inl refl

-- and of no other pair of endpoints
others_noted : MayKeep (last_packet_at called) (begun_between called (bulb_addr, 50001) (test_addr, 443)) (one_flow.kept (bulb_addr, 50001) (test_addr, 443))
unfolding flows_compute
others_noted = refl

-- which is what the history says
call_expected : begun_between called (bulb_addr, 50000) (test_addr, 443) ≡ Some ((bulb_addr, 50000), 1001)
unfolding flows_compute
call_expected = refl

-- another connection was noted 7,441 seconds later: now it may be forgotten
abbrev later : List Segment
later = with_packet called (tcp bulb_addr 50001 test_addr 443 2) 8442

call_forgotten : MayKeep (last_packet_at later) (begun_between later (bulb_addr, 50000) (test_addr, 443)) (no_flows.kept (bulb_addr, 50000) (test_addr, 443))
unfolding flows_compute
call_forgotten = inr (refl, refl)

-- after a reset nothing is kept
reset_noted : begun_between (with_packet called reset 1002) (bulb_addr, 50000) (test_addr, 443) ≡ None
unfolding flows_compute
reset_noted = refl
