-- How the next request comes.
use Rattle.std.proofs.Common.{◌≡◌, ℕ, ◌+◌, ◌<◌, ◌≤◌, Bool, cond, List, [], ◌++◌, length, take, drop, None, refl, inl, inr, sym, ap, ◌∙◌, subst, arith, append_assoc, append-nil, length-append, length-take, take-append-drop}
use Rattle.mud_world.specs.Door.{DoorState, put_out, with_left}
use Rattle.mud_world.specs.Whole.{WrotePart}
use Rattle.mud_world.proofs.Doors.{put_out_none, put_out_twice}
use Rattle.httparse.specs.Grammar.{RequestHead, print_request}
use Rattle.http_requests.specs.declared.fault.FramingFault.TheVariants.{Cut}
use Rattle.http_requests.specs.declared.fault.RequestFault.{RequestFault}
use Rattle.http_requests.specs.declared.fault.MomentFrom.{MomentFrom}
use Rattle.http_requests.specs.declared.shape.RequestShape.{RequestShape}
use Rattle.http_requests.specs.Framing.{refusal_of, body_length, leave_of}
use Rattle.http_requests.specs.Head.{IsHead}
use Rattle.http_requests.specs.Received.{Grown, Received}
use Rattle.http_requests.specs.Requests.{Request, Begins, IsCut, IsFault, fault_in}
use Rattle.http_requests.specs.Shapes.{IsShape, HasHead, MayGetHead}
use Rattle.http_requests.specs.Steps.{Came, CameWhole, CameFault, HoldsWhole, ReadFailed, LeaveFailed}
use Rattle.http_requests.proofs.Heads.{head_append, head_octets, head_unique, fault_by}
use Rattle.http_requests.proofs.Pieces.{continue_octets}

-- ---- Steps of a door

-- octets are taken
pub came_received : (a b : List ℕ) (s t : DoorState) → Received a b s t → Came a b s t []
came_received a b s t r = record {
  taken = r.taken;
  held = r.held;
  left = r.took.left;
  rest = r.took.rest ∙ sym (put_out_none (with_left t.left s));
}

-- octets are written
pub came_written : (octets written : List ℕ) (s t : DoorState) → t ≡ put_out written s → Came octets octets s t written
came_written octets written s t wrote = record {
  taken = [];
  held = sym (append-nil octets);
  left = sym (ap (λ (u : DoorState). u.left) wrote);
  rest = wrote ∙ ap (λ left. put_out written (with_left left s)) (sym (ap (λ (u : DoorState). u.left) wrote));
}

-- one after the other
pub came_more : (a b c p q : List ℕ) (s t u : DoorState) → Came a b s t p → Came b c t u q → Came a c s u (p ++ q)
came_more a b c p q s t u x y = record {
  taken = x.taken ++ y.taken;
  held = y.held ∙ ap (λ o. o ++ y.taken) x.held ∙ append_assoc a x.taken y.taken;
  left = x.left ∙ ap (λ o. x.taken ++ o) y.left ∙ sym (append_assoc x.taken y.taken u.left);
  rest = y.rest ∙ ap (λ v. put_out q (with_left u.left v)) x.rest ∙ put_out_twice p q (with_left u.left s);
}

-- octets are written, and then taken
pub came_answered : (a b written : List ℕ) (s t u : DoorState) → t ≡ put_out written s → Received a b t u → Came a b s u written
came_answered a b written s t u wrote r =
    subst (Came a b s u) (append-nil written) (came_more a a b written [] s t u (came_written a written s t wrote) (came_received a b t u r))

-- octets are taken first
pub came_later : (a b c q : List ℕ) (s t u : DoorState) → Received a b s t → Came b c t u q → Came a c s u q
came_later a b c q s t u r y = came_more a b c [] q s t u (came_received a b s t r) y

-- ---- A request whose head is held

-- the leave that the shape says
pub leave_is : (from : MomentFrom) (shape : RequestShape) (head : RequestHead) → IsShape from shape head → cond shape.awaits_leave continue_octets [] ≡ leave_of head
unfolding leave_of
leave_is from shape head is = ap (λ (b : Bool). cond b continue_octets []) is.awaits_leave

-- the head stays where octets come
pub head_grown : (a b : List ℕ) (head : RequestHead) (rest : List ℕ) → IsHead a head rest → (g : Grown a b) → IsHead b head (rest ++ g.more)
head_grown a b head rest is g = subst (λ o. IsHead o head (rest ++ g.more)) (sym g.held) (head_append a head rest g.more is)

-- how many octets are held behind the head
pub held_behind : (octets : List ℕ) (head : RequestHead) (rest : List ℕ) → IsHead octets head rest → length octets ≡ length (print_request head) + length rest
held_behind octets head rest is = ap length (head_octets octets head rest is) ∙ length-append (print_request head) rest

-- enough octets for the body
pub begins_whole : (from : MomentFrom) (octets : List ℕ) (head : RequestHead) (rest : List ℕ) → IsHead octets head rest → refusal_of from head ≡ None → body_length head ≤ length rest
    → Begins from octets (record { head = head; body = take (body_length head) rest }) (drop (body_length head) rest)
begins_whole from octets head rest is taken enough = record {
  head = subst (λ o. IsHead octets head o) (sym (take-append-drop (body_length head) rest)) is;
  taken = taken;
  body = omega (arith, length-take (body_length head) rest);
}

-- the whole request came
pub whole_came : (from : MomentFrom) (shape : RequestShape) (a b : List ℕ) (s t u : DoorState) → HasHead from a shape → t ≡ put_out (cond shape.awaits_leave continue_octets []) s
    → Grown a b → Received a b t u → shape.head_len + shape.body_len ≤ length b → CameWhole from shape a b s u
whole_came from shape a b s t u h wrote g r enough =
    let is = head_grown a b h.head h.rest h.is_head g in
    let body : body_length h.head ≤ length (h.rest ++ g.more) = omega (arith, held_behind b h.head (h.rest ++ g.more) is, h.is_shape.head_len, h.is_shape.body_len) in
    record {
      request = record { head = h.head; body = take (body_length h.head) (h.rest ++ g.more) };
      behind = drop (body_length h.head) (h.rest ++ g.more);
      begins = begins_whole from b h.head (h.rest ++ g.more) is h.taken body;
      is_shape = h.is_shape;
      came = subst (Came a b s u) (leave_is from shape h.head h.is_shape) (came_answered a b _ s t u wrote r);
    }

-- the whole request is held
pub whole_holds : (from : MomentFrom) (shape : RequestShape) (a b : List ℕ) → HasHead from a shape → Grown a b → shape.head_len + shape.body_len ≤ length b → HoldsWhole from shape b
whole_holds from shape a b h g enough =
    let is = head_grown a b h.head h.rest h.is_head g in
    let body : body_length h.head ≤ length (h.rest ++ g.more) = omega (arith, held_behind b h.head (h.rest ++ g.more) is, h.is_shape.head_len, h.is_shape.body_len) in
    record {
      request = record { head = h.head; body = take (body_length h.head) (h.rest ++ g.more) };
      behind = drop (body_length h.head) (h.rest ++ g.more);
      begins = begins_whole from b h.head (h.rest ++ g.more) is h.taken body;
      is_shape = h.is_shape;
    }

-- the octets end inside the body
cut_inside : (from : MomentFrom) (shape : RequestShape) (a b : List ℕ) → (h : HasHead from a shape) → Grown a b → length b < shape.head_len + shape.body_len → IsCut from b (fault_in h.head Cut) (leave_of h.head)
cut_inside from shape a b h g short =
    let is = head_grown a b h.head h.rest h.is_head g in
    record {
      head = h.head;
      rest = h.rest ++ g.more;
      is_head = is;
      taken = h.taken;
      short = omega (arith, held_behind b h.head (h.rest ++ g.more) is, h.is_shape.head_len, h.is_shape.body_len);
      is_cut = refl;
      leave_written = refl;
    }

-- no more octets come
at_the_end : (from : MomentFrom) (b left : List ℕ) (fault : RequestFault) (pending : List ℕ) → left ≡ [] → IsFault from b fault pending → IsFault from (b ++ left) fault pending
at_the_end from b left fault pending none is = subst (λ o. IsFault from o fault pending) (sym (ap (λ l. b ++ l) none ∙ append-nil b)) is

pub cut_came : (from : MomentFrom) (shape : RequestShape) (fault : RequestFault) (a b : List ℕ) (s t u : DoorState) → HasHead from a shape → t ≡ put_out (cond shape.awaits_leave continue_octets []) s
    → Grown a b → Received a b t u → fault ≡ fault_by Cut shape.is_head → length b < shape.head_len + shape.body_len → u.left ≡ [] → CameFault from fault a b s u
cut_came from shape fault a b s t u h wrote g r is_cut short none = record {
  pending = leave_of h.head;
  is_fault = subst (λ f. IsFault from (b ++ u.left) f (leave_of h.head)) (sym (is_cut ∙ ap (fault_by Cut) h.is_shape.is_head))
      (at_the_end from b u.left (fault_in h.head Cut) (leave_of h.head) none (record { cause = inr (cut_inside from shape a b h g short) }));
  came = subst (Came a b s u) (leave_is from shape h.head h.is_shape) (came_answered a b _ s t u wrote r);
}

pub body_failed : (from : MomentFrom) (shape : RequestShape) (a b : List ℕ) (s t u : DoorState) → HasHead from a shape → t ≡ put_out (cond shape.awaits_leave continue_octets []) s
    → Grown a b → Received a b t u → length b < shape.head_len + shape.body_len → ReadFailed from a b s u
body_failed from shape a b s t u h wrote g r short = record {
  pending = leave_of h.head;
  awaits = record { part = inr (fault_in h.head Cut, cut_inside from shape a b h g short) };
  came = subst (Came a b s u) (leave_is from shape h.head h.is_shape) (came_answered a b _ s t u wrote r);
}

pub leave_failed : (from : MomentFrom) (shape : RequestShape) (octets : List ℕ) (s t : DoorState) → HasHead from octets shape → WrotePart (cond shape.awaits_leave continue_octets []) s t → LeaveFailed from octets octets s t
leave_failed from shape octets s t h w =
    let same = leave_is from shape h.head h.is_shape in
    record {
      head = h.head;
      behind = h.rest;
      is_head = h.is_head;
      taken = h.taken;
      count = w.count;
      part = subst (λ leave. w.count < length leave) same w.part;
      came = came_written octets (take w.count (leave_of h.head)) s t (w.wrote ∙ ap (λ leave. put_out (take w.count leave) s) same);
    }

-- ---- What comes before a head is held

pub head_failed : (from : MomentFrom) (a b : List ℕ) (s t : DoorState) → MayGetHead b → Received a b s t → ReadFailed from a b s t
head_failed from a b s t may r = record { pending = []; awaits = record { part = inl (may, refl) }; came = came_received a b s t r }

pub fault_came : (from : MomentFrom) (fault : RequestFault) (a b : List ℕ) (s t : DoorState) → IsFault from (b ++ t.left) fault [] → Received a b s t → CameFault from fault a b s t
fault_came from fault a b s t is r = record { pending = []; is_fault = is; came = came_received a b s t r }

-- ---- Octets that come before a head is held, and then the rest

pub whole_later : (from : MomentFrom) (shape : RequestShape) (a b c : List ℕ) (s t u : DoorState) → Received a b s t → CameWhole from shape b c t u → CameWhole from shape a c s u
whole_later from shape a b c s t u r w = record {
  request = w.request;
  behind = w.behind;
  begins = w.begins;
  is_shape = w.is_shape;
  came = came_later a b c _ s t u r w.came;
}

pub fault_later : (from : MomentFrom) (fault : RequestFault) (a b c : List ℕ) (s t u : DoorState) → Received a b s t → CameFault from fault b c t u → CameFault from fault a c s u
fault_later from fault a b c s t u r w = record { pending = w.pending; is_fault = w.is_fault; came = came_later a b c _ s t u r w.came }

pub read_later : (from : MomentFrom) (a b c : List ℕ) (s t u : DoorState) → Received a b s t → ReadFailed from b c t u → ReadFailed from a c s u
read_later from a b c s t u r w = record { pending = w.pending; awaits = w.awaits; came = came_later a b c _ s t u r w.came }

pub leave_later : (from : MomentFrom) (a b c : List ℕ) (s t u : DoorState) → Received a b s t → LeaveFailed from b c t u → LeaveFailed from a c s u
leave_later from a b c s t u r w = record {
  head = w.head;
  behind = w.behind;
  is_head = w.is_head;
  taken = w.taken;
  count = w.count;
  part = w.part;
  came = came_later a b c _ s t u r w.came;
}

-- the whole request that is held has the shape's length
pub whole_held : (from : MomentFrom) (a b : List ℕ) (shape : RequestShape) (r : Request) (behind : List ℕ) → Begins from a r behind → b ≡ a → HasHead from b shape → shape.head_len + shape.body_len ≤ length b
whole_held from a b shape r behind begins same h =
    let there = subst (λ o. IsHead o r.head (r.body ++ behind)) (sym same) begins.head in
    let one = head_unique b r.head h.head (r.body ++ behind) h.rest there h.is_head in
    omega (
      arith,
      held_behind b r.head (r.body ++ behind) there,
      length-append r.body behind,
      begins.body,
      h.is_shape.head_len,
      h.is_shape.body_len,
      ap (λ k. length (print_request k)) one.0,
      ap body_length one.0,
    )
