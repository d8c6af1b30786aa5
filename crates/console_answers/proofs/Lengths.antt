-- A head fits into the buffer.
use Rattle.std.proofs.Common.{◌≡◌, ℕ, ◌+◌, ◌^◌, ◌<◌, ◌≤◌, Bool, true, false, List, [], ◌++◌, length, Option, Some, None, lit≤, lit<, arith, length-append}
use Rattle.std.specs.Prelude.{codes, decimal}
use Rattle.std.specs.Fmt.{digits}
use Rattle.std.proofs.lemmas.Fmt.{length-decimal-le}
use Rattle.console_answers.specs.Kept.{kept}
use Rattle.console_answers.proofs.KeptLemmas.{kept_short}
use Rattle.console_routes.specs.declared.route.Route.{Route}
use Rattle.console_routes.specs.declared.route.Route.TheVariants.{Classes, Due, Files, HearDhcp, HearLldp, Holds, Leases, Locals, Names, Packets, Revokes, Things, Verdicts, Why}
use Rattle.console_routes.specs.Actions.{text_of, methods_of, action_of}
use Rattle.console_answers.specs.declared.status.Status.{Status}
use Rattle.console_answers.specs.declared.status.Status.TheVariants.{Done, BadRequest, NotFound, MethodNotAllowed, Conflict, LengthRequired, TooLarge, Unprocessable, NotImplemented, Unavailable, NoStorage}
use Rattle.console_answers.specs.Statuses.{number_of, phrase_of}
use Rattle.console_answers.specs.Heads.{methods_text, allow_line, line_end, head_of}
use Rattle.console_answers.proofs.Parts.{type_line, status_line, length_line, close_line}

short_status : (status : Status) → length (status_line status) ≤ 100
unfolding number_of phrase_of digits
short_status Done = lit≤ tt
short_status BadRequest = lit≤ tt
short_status NotFound = lit≤ tt
short_status MethodNotAllowed = lit≤ tt
short_status Conflict = lit≤ tt
short_status LengthRequired = lit≤ tt
short_status TooLarge = lit≤ tt
short_status Unprocessable = lit≤ tt
short_status NotImplemented = lit≤ tt
short_status Unavailable = lit≤ tt
short_status NoStorage = lit≤ tt

short_type : length type_line ≤ 100
short_type = lit≤ tt

short_methods : (route : Route) → length (methods_text route) ≤ 50
unfolding methods_text methods_of action_of text_of
short_methods Classes = lit≤ tt
short_methods Due = lit≤ tt
short_methods Files = lit≤ tt
short_methods HearDhcp = lit≤ tt
short_methods HearLldp = lit≤ tt
short_methods Holds = lit≤ tt
short_methods Leases = lit≤ tt
short_methods Locals = lit≤ tt
short_methods Names = lit≤ tt
short_methods Packets = lit≤ tt
short_methods Revokes = lit≤ tt
short_methods Things = lit≤ tt
short_methods Verdicts = lit≤ tt
short_methods Why = lit≤ tt

short_allow : (allow : Option Route) → length (allow_line allow) ≤ 100
unfolding allow_line
short_allow None = lit≤ tt
short_allow (Some route) =
    let name : length (codes "Allow: ") ≤ 7 = lit≤ tt in
    let end : length line_end ≤ 2 = lit≤ tt in
    omega (arith, short_methods route, length-append (codes "Allow: ") (methods_text route), length-append (codes "Allow: " ++ methods_text route) line_end)

short_length : (n : ℕ) → n < 2 ^ 64 → length (length_line n) ≤ 100
short_length n fits =
    let name : length (codes "Content-Length: ") ≤ 16 = lit≤ tt in
    let end : length line_end ≤ 2 = lit≤ tt in
    let number : length (decimal n) ≤ 20 = length-decimal-le 20 n (lit< tt) (omega arith) fits in
    omega (arith, length-append (codes "Content-Length: ") (decimal n), length-append (codes "Content-Length: " ++ decimal n) line_end)

short_close : (closes : Bool) → length (close_line closes) ≤ 100
short_close true = lit≤ tt
short_close false = lit≤ tt

six : (a b c d e f : List ℕ) → length a ≤ 100 → length b ≤ 100 → length c ≤ 100 → length d ≤ 100 → length e ≤ 100 → length f ≤ 100 → length (a ++ b ++ c ++ d ++ e ++ f) ≤ 4096
six a b c d e f la lb lc ld le lf =
    omega (arith, length-append a b, length-append (a ++ b) c, length-append (a ++ b ++ c) d, length-append (a ++ b ++ c ++ d) e, length-append (a ++ b ++ c ++ d ++ e) f)

short_head : (status : Status) (allow : Option Route) (n : ℕ) (closes : Bool) → n < 2 ^ 64 → length (head_of status allow n closes) ≤ 4096
unfolding head_of
short_head status allow n closes fits =
    let end : length line_end ≤ 100 = lit≤ tt in
    six (status_line status) type_line (allow_line allow) (length_line n) (close_line closes) line_end (short_status status) short_type (short_allow allow) (short_length n fits) (short_close closes) end

pub head_kept : (status : Status) (allow : Option Route) (n : ℕ) (closes : Bool) → n < 2 ^ 64 → kept ([] ++ head_of status allow n closes) ≡ head_of status allow n closes
head_kept status allow n closes fits = kept_short (head_of status allow n closes) (short_head status allow n closes fits)
