-- What a proof unfolds to compute with heads that are written out.
use Rattle.std.specs.Prelude.{⊤}
use Rattle.httparse.proofs.OnLiterals.{httparse_on_literals}
use Rattle.mud_base.proofs.OnLiterals.{texts_on_literals}
use Rattle.http_requests.specs.Framing.{is_head, refusal_of, body_length, moment_of, closes, awaits_leave, leave_of}
use Rattle.http_requests.specs.Requests.{path_of, stop_after}

unfoldable pub requests_on_literals : ⊤
unfolding httparse_on_literals texts_on_literals is_head refusal_of body_length moment_of closes awaits_leave leave_of path_of stop_after
requests_on_literals = tt
