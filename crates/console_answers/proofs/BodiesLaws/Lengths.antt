-- The bodies fit into the buffer.
use Rattle.std.proofs.Common.{◌≡◌, ℕ, ◌+◌, ◌*◌, ◌^◌, ◌<◌, ◌≤◌, Bool, true, false, List, [], ◌++◌, length, Option, Some, None, lit≤, lit<, arith, length-append}
use Rattle.std.specs.Prelude.{codes, decimal, ◌==◌, ◌-◌, if◌then◌else◌}
use Rattle.std.proofs.lemmas.Fmt.{length-decimal-le}
use Rattle.json.specs.Print.{quoted}
use Rattle.item_codec.specs.declared.word.Word as done_word
use Rattle.item_codec.specs.declared.word.Word.TheVariants.{New, Same, Pending, Moved, Removed, Held, Released, Stranger, Renewed, Ended, Rejected, Approved, Revoked, Bound, Unbound, Set}
use Rattle.item_codec.specs.Word.{text_of}
use Rattle.console_answers.specs.Kept.{kept}
use Rattle.console_answers.proofs.KeptLemmas.{kept_short, short_quoted}
use Rattle.console_routes.specs.declared.action.Statement.{Statement}
use Rattle.console_routes.specs.declared.action.Statement.TheVariants as statement
use Rattle.desk_model.specs.declared.reply.Outcome.{Outcome}
use Rattle.console_answers.specs.Texts.{url_text}
use Rattle.console_answers.specs.Bodies.Outcomes.{rule_body, until_text, result_body, until_body, url_body, stated_body, EndFits, UrlFits}
use Rattle.console_answers.specs.Bodies.Heards.{nothing_body}

short_word : (word : done_word.Word) → length (text_of word) ≤ 9
unfolding text_of
short_word New = lit≤ tt
short_word Same = lit≤ tt
short_word Pending = lit≤ tt
short_word Moved = lit≤ tt
short_word Removed = lit≤ tt
short_word Held = lit≤ tt
short_word Released = lit≤ tt
short_word Stranger = lit≤ tt
short_word Renewed = lit≤ tt
short_word Ended = lit≤ tt
short_word Rejected = lit≤ tt
short_word Approved = lit≤ tt
short_word Revoked = lit≤ tt
short_word Bound = lit≤ tt
short_word Unbound = lit≤ tt
short_word Set = lit≤ tt

pub short_quoted_word : (word : done_word.Word) → length (quoted (text_of word)) ≤ 56
short_quoted_word word = omega (arith, short_word word, short_quoted (text_of word))

short_until_by : (is_never : Bool) (end : ℕ) → end < 2 ^ 64 → length (if is_never then codes "null" else decimal end) ≤ 20
short_until_by true end fits = lit≤ tt
short_until_by false end fits = length-decimal-le 20 end (lit< tt) (omega arith) fits

pub short_until : (until : Option ℕ) → EndFits until → length (until_text until) ≤ 20
unfolding until_text
short_until None fits = lit≤ tt
short_until (Some end) fits = short_until_by (end == 2 ^ 64 - 1) end fits

short_url : (url : Option (List ℕ)) → UrlFits url → length (url_text url) ≤ 1538
unfolding url_text
short_url None fits = lit≤ tt
short_url (Some url) fits = omega (arith, short_quoted url, fits)

three : (a b c : List ℕ) → length a ≤ 40 → length b ≤ 1000 → length c ≤ 40 → length (a ++ b ++ c) ≤ 4096
three a b c la lb lc = omega (arith, length-append a b, length-append (a ++ b) c)

five : (a b c d e : List ℕ) → length a ≤ 40 → length b ≤ 1000 → length c ≤ 40 → length d ≤ 1600 → length e ≤ 40 → length (a ++ b ++ c ++ d ++ e) ≤ 4096
five a b c d e la lb lc ld le = omega (arith, length-append a b, length-append (a ++ b) c, length-append (a ++ b ++ c) d, length-append (a ++ b ++ c ++ d) e)

pub rule_kept : (rule : List ℕ) → length rule ≤ 100 → kept ([] ++ rule_body rule) ≡ rule_body rule
unfolding rule_body
rule_kept rule short = kept_short (rule_body rule) (three (codes "{\"rule\":") (quoted rule) (codes "}") (lit≤ tt) (omega (arith, short_quoted rule)) (lit≤ tt))

result_fits : (word : done_word.Word) → length (result_body word) ≤ 4096
unfolding result_body
result_fits word = three (codes "{\"result\":") (quoted (text_of word)) (codes "}") (lit≤ tt) (omega (arith, short_quoted_word word)) (lit≤ tt)

until_fits : (word : done_word.Word) (until : Option ℕ) → EndFits until → length (until_body word until) ≤ 4096
unfolding until_body
until_fits word until fits = five (codes "{\"result\":") (quoted (text_of word)) (codes ",\"until\":") (until_text until) (codes "}") (lit≤ tt) (omega (arith, short_quoted_word word)) (lit≤ tt) (omega (arith, short_until until fits)) (lit≤ tt)

url_fits : (word : done_word.Word) (url : Option (List ℕ)) → UrlFits url → length (url_body word url) ≤ 4096
unfolding url_body
url_fits word url fits = five (codes "{\"result\":") (quoted (text_of word)) (codes ",\"url\":") (url_text url) (codes "}") (lit≤ tt) (omega (arith, short_quoted_word word)) (lit≤ tt) (omega (arith, short_url url fits)) (lit≤ tt)

stated_fits : (s : Statement) (o : Outcome) → EndFits o.until → length (stated_body s o) ≤ 4096
unfolding stated_body
stated_fits statement.Lease o fits = until_fits o.word o.until fits
stated_fits statement.Observe o fits = until_fits o.word o.until fits
stated_fits statement.Move o fits = result_fits o.word
stated_fits statement.Remove o fits = result_fits o.word
stated_fits statement.Hold o fits = result_fits o.word
stated_fits statement.Release o fits = result_fits o.word
stated_fits statement.EndLease o fits = result_fits o.word
stated_fits statement.Verdict o fits = result_fits o.word
stated_fits statement.Revoke o fits = result_fits o.word
stated_fits statement.Bind o fits = result_fits o.word
stated_fits statement.Unbind o fits = result_fits o.word
stated_fits statement.Locals o fits = result_fits o.word

pub stated_kept : (s : Statement) (o : Outcome) → EndFits o.until → kept ([] ++ stated_body s o) ≡ stated_body s o
stated_kept s o fits = kept_short (stated_body s o) (stated_fits s o fits)

pub url_kept : (word : done_word.Word) (url : Option (List ℕ)) → UrlFits url → kept ([] ++ url_body word url) ≡ url_body word url
url_kept word url fits = kept_short (url_body word url) (url_fits word url fits)

nothing_fits : length nothing_body ≤ 4096
unfolding nothing_body
nothing_fits = lit≤ tt

pub nothing_kept : kept ([] ++ nothing_body) ≡ nothing_body
nothing_kept = kept_short nothing_body nothing_fits
