-- Answers as octets (RFC 9112): the lines of the head, each ended by CR LF, an empty line, and the body.
use Rattle.std.specs.Prelude.{ℕ, Bool, List, [], ◌∷◌, ◌++◌, length, map, codes, decimal, Option, Some, None, if◌then◌else◌}
use Rattle.console_routes.specs.declared.route.Route.{Route}
use Rattle.console_routes.specs.Actions.{text_of, methods_of}
use Rattle.console_answers.specs.declared.status.Status.{Status}
use Rattle.console_answers.specs.Statuses.{number_of, phrase_of}

abbrev pub line_end : List ℕ
line_end = 13 ∷ 10 ∷ []

-- the methods of a route, by the octets of their names (RFC 9110, 10.2.1)
unfoldable pub methods_text : Route → List ℕ
methods_text route = joined (map text_of (methods_of route))
  where
    -- texts with a comma and a space between them
    joined : List (List ℕ) → List ℕ
    joined [] = []
    joined (t ∷ []) = t
    joined (t ∷ u ∷ ts) = t ++ codes ", " ++ joined (u ∷ ts)

-- it stands where a route has not the method of the request
unfoldable pub allow_line : Option Route → List ℕ
allow_line None = []
allow_line (Some route) = codes "Allow: " ++ methods_text route ++ line_end

-- the head of an answer with a body of so many octets
unfoldable pub head_of : Status → Option Route → ℕ → Bool → List ℕ
head_of status allow n closes =
    (codes "HTTP/1.1 " ++ decimal (number_of status) ++ codes " " ++ phrase_of status ++ line_end)
    ++ type_line
    ++ allow_line allow
    ++ (codes "Content-Length: " ++ decimal n ++ line_end)
    ++ close_line closes
    ++ line_end
  where
    -- it stands where the connection ends behind the answer (RFC 9112, 9.6)
    close_line : Bool → List ℕ
    close_line closes = if closes then codes "Connection: close" ++ line_end else []

    type_line : List ℕ
    type_line = codes "Content-Type: application/json" ++ line_end

-- a request by HEAD is answered with the head alone (RFC 9110, 9.3.2)
unfoldable pub shown : Bool → List ℕ → List ℕ
shown by_head body = if by_head then [] else body

-- the octets of an answer
unfoldable pub answer_of : Status → Option Route → Bool → Bool → List ℕ → List ℕ
answer_of status allow closes by_head body = head_of status allow (length body) closes ++ shown by_head body
