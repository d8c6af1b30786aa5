-- The numbers and phrases of statuses (RFC 9110, 15; RFC 4918, 11.5; the phrases of 413 and 422 are those of RFC 7231,
-- 6.5.11, and RFC 4918, 11.2).
use Rattle.std.specs.Prelude.{ℕ, List, codes}
use Rattle.console_answers.specs.declared.status.Status.{Status}
use Rattle.console_answers.specs.declared.status.Status.TheVariants.{Done, BadRequest, NotFound, MethodNotAllowed, Conflict, LengthRequired, TooLarge, Unprocessable, NotImplemented, Unavailable, NoStorage}

unfoldable pub number_of : Status → ℕ
number_of Done = 200
number_of BadRequest = 400
number_of NotFound = 404
number_of MethodNotAllowed = 405
number_of Conflict = 409
number_of LengthRequired = 411
number_of TooLarge = 413
number_of Unprocessable = 422
number_of NotImplemented = 501
number_of Unavailable = 503
number_of NoStorage = 507

unfoldable pub phrase_of : Status → List ℕ
phrase_of Done = codes "OK"
phrase_of BadRequest = codes "Bad Request"
phrase_of NotFound = codes "Not Found"
phrase_of MethodNotAllowed = codes "Method Not Allowed"
phrase_of Conflict = codes "Conflict"
phrase_of LengthRequired = codes "Length Required"
phrase_of TooLarge = codes "Payload Too Large"
phrase_of Unprocessable = codes "Unprocessable Entity"
phrase_of NotImplemented = codes "Not Implemented"
phrase_of Unavailable = codes "Service Unavailable"
phrase_of NoStorage = codes "Insufficient Storage"
