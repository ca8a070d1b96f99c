-- The bytes of a reply (RFC 9112, sections 4 and 6).
use Rattle.std.specs.Prelude.{ℕ, Bool, ◌≡◌, true, false, List, [], ◌∷◌, ◌++◌, length, codes, decimal, unwrap_or, ◌==◌}
use Rattle.std.specs.List.{list_any}
use Rattle.http.specs.StatusCode.{reason_phrase}

-- the status codes of the replies
abbrev pub statuses : List ℕ
statuses = 200 ∷ 201 ∷ 400 ∷ 401 ∷ 403 ∷ 404 ∷ 405 ∷ 409 ∷ 413 ∷ 422 ∷ 431 ∷ 500 ∷ 501 ∷ 503 ∷ 507 ∷ []

abbrev pub IsReplyStatus : ℕ → Type 0
IsReplyStatus status = list_any (λ s. s == status) statuses ≡ true

-- the reason phrase of a status
unfoldable pub phrase_of : ℕ → List ℕ
phrase_of status = unwrap_or (reason_phrase status) []

-- the field that says that the connection closes
abbrev pub closing : Bool → List ℕ
closing true = codes "connection: close\r\n"
closing false = []

-- the status line and the fields, for a body of this length
unfoldable pub reply_head : ℕ → ℕ → Bool → List ℕ
reply_head status length last =
    codes "HTTP/1.1 " ++ decimal status ++ codes " " ++ phrase_of status
    ++ codes "\r\ncontent-type: application/json\r\ncontent-length: " ++ decimal length ++ codes "\r\n"
    ++ closing last ++ codes "\r\n"

abbrev pub reply_bytes : ℕ → List ℕ → Bool → List ℕ
reply_bytes status body last = reply_head status (length body) last ++ body
