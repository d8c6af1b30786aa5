use Rattle.std.proofs.Common.{◌≡◌, refl, sym, subst, arith, eqb-true}
use Rattle.std.proofs.lemmas.Bool.Decides.{nat_tests}
use Rattle.std.proofs.lemmas.List.{nil_from_length}
use Rattle.http_requests.specs.Requests.{no_head}
use Rattle.http_requests.specs.Shapes.{EndsBroken}
use Rattle.http_requests.proofs.Looks.{are_spans, found_head, never_ends, full_ends, refused_ends, short_waits, nothing_waits}
use Rattle.http_requests.proofs.seek.look.Goals as goal

pub returns-then-is_empty-clause-wait : goal.returns-then-is_empty-clause-wait
returns-then-is_empty-clause-wait c = λ e. nothing_waits c.args.octets.now (nil_from_length c.args.octets.now (eqb-true _ _ (sym c.if-is_empty.ensures)))

pub returns-in-Head-clause-found : goal.returns-in-Head-clause-found
returns-in-Head-clause-found c = λ shape e.
    let spans = c.in-Head.spans in
    let front = c.front_of-front.result.now in
    let parsed = c.in-Head.ensures.head spans refl in
    let says = c.step_of.ensures.found shape e parsed.0 (are_spans front c.parse.new.headers c.split_at.result.0.now spans parsed.0 c.split_at.ensures.front parsed.1) in
    record {
      head = parsed.0;
      rest = _;
      is_head = found_head c.args.octets.now front c.parse.new.headers spans parsed.0 c.front_of-front.ensures.front c.parse.auto.headers parsed.1 (c.in-Head.ensures.within spans refl);
      taken = says.0;
      is_shape = says.1;
    }

pub returns-in-Head-clause-broken : goal.returns-in-Head-clause-broken
returns-in-Head-clause-broken c = λ fault e.
    let spans = c.in-Head.spans in
    let front = c.front_of-front.result.now in
    let parsed = c.in-Head.ensures.head spans refl in
    let says = c.step_of.ensures.broken fault e parsed.0 (are_spans front c.parse.new.headers c.split_at.result.0.now spans parsed.0 c.split_at.ensures.front parsed.1) in
    refused_ends c.args.from c.args.octets.now parsed.0 _ fault
    (found_head c.args.octets.now front c.parse.new.headers spans parsed.0 c.front_of-front.ensures.front c.parse.auto.headers parsed.1 (c.in-Head.ensures.within spans refl)) says

pub returns-then-front-lt-MOST_HEAD-clause-wait : goal.returns-then-front-lt-MOST_HEAD-clause-wait
returns-then-front-lt-MOST_HEAD-clause-wait c = λ e.
    short_waits c.args.octets.now c.front_of-front.result.now c.front_of-front.ensures.front (c.in-Partial.ensures.partial refl) (c.in-Partial.ensures.unfinished refl) (omega arith)

pub returns-else-front-lt-MOST_HEAD-clause-broken : goal.returns-else-front-lt-MOST_HEAD-clause-broken
returns-else-front-lt-MOST_HEAD-clause-broken c = λ fault e.
    let same : no_head ≡ fault = cc in
    subst (EndsBroken c.args.from c.args.octets.now) same
    (full_ends c.args.from c.args.octets.now c.front_of-front.result.now c.front_of-front.ensures.front (c.in-Partial.ensures.partial refl) (omega arith))

pub returns-in-Never-clause-broken : goal.returns-in-Never-clause-broken
returns-in-Never-clause-broken c = λ fault e.
    let same : no_head ≡ fault = cc in
    subst (EndsBroken c.args.from c.args.octets.now) same
    (never_ends c.args.from c.args.octets.now c.front_of-front.result.now c.front_of-front.ensures.front (grind (arith, nat_tests)) (c.in-Never.ensures.never refl))
