-- What is seen at the front of a stream holds of the stream as it goes on.
use Rattle.std.proofs.Common.{◌≡◌, ℕ, ◌+◌, ◌-◌, ◌≤◌, List, ◌++◌, length, take, arith, append-nil, append_assoc, length-append, ap, subst, ◌∙◌}
use Rattle.std.specs.Prelude.{All}
use Rattle.std.proofs.lemmas.List.Elements.{All-take}
use Rattle.std.proofs.Math.Seq.{take-append-add, take-append_seam}
use Rattle.httparse.specs.Grammar.{RequestHead, ReadsRequest, NeverHasRequest}
use Rattle.httparse.specs.Grammar as httparse
use Rattle.httparse.specs.Spans.{RequestExceeds, RequestOverflows}
use Rattle.http_header.specs.Token as header
use Rattle.ht_wire.specs.declared.limits.TheConstants.{LONGEST_HEAD, MOST_FIELDS}
use Rattle.ht_wire.specs.Heads.{IsEnd, IsLineByte}
use Rattle.ht_wire.specs.Requests.{IsRequest}
use Rattle.ht_wire.specs.Window.{front}
use Rattle.ht_wire.specs.declared.request.Request.{Request}

pub reads_on : (buf more : List ℕ) (h : RequestHead) (rest : List ℕ) → ReadsRequest buf h rest → ReadsRequest (buf ++ more) h (rest ++ more)
reads_on buf more h rest reads = (reads.0, ap (λ b. b ++ more) reads.1 ∙ append_assoc _ rest more)

pub never_on : (buf more : List ℕ) → NeverHasRequest buf → NeverHasRequest (buf ++ more)
never_on buf more never later = rw append_assoc (never (more ++ later))

pub exceeds_on : (buf more : List ℕ) → RequestExceeds MOST_FIELDS buf → RequestExceeds MOST_FIELDS (buf ++ more)
exceeds_on buf more e = (e.0, e.1 ++ more, ap (λ b. b ++ more) e.2 ∙ append_assoc e.0 e.1 more, e.3, e.4, e.5)

pub overflows_on : (buf more : List ℕ) → RequestOverflows MOST_FIELDS buf → RequestOverflows MOST_FIELDS (buf ++ more)
overflows_on buf more over later = rw append_assoc (over (more ++ later))

pub front_of : (buf left : List ℕ) → length buf ≤ LONGEST_HEAD → front (buf ++ left) ≡ buf ++ take (LONGEST_HEAD - length buf) left
front_of buf left within =
    let cut : LONGEST_HEAD ≡ length buf + (LONGEST_HEAD - length buf) = omega (arith, within) in
    ap (λ k. take k (buf ++ left)) cut ∙ take-append-add buf left (LONGEST_HEAD - length buf)

pub front_full : (buf left : List ℕ) → length buf ≤ LONGEST_HEAD → LONGEST_HEAD ≤ length buf → front (buf ++ left) ≡ buf
front_full buf left within full =
    let cut : LONGEST_HEAD ≡ length buf + 0 = omega (arith, within, full) in
    ap (λ k. take k (buf ++ left)) cut ∙ take-append-add buf left 0 ∙ append-nil buf

-- a token of httparse is one of http
pub token_is : (bytes : List ℕ) → httparse.IsToken bytes → header.IsToken bytes
unfolding httparse.is_token_byte header.is_token_byte
token_is bytes token = token

-- the first bytes of an end are one, and so bytes behind what is no end make none
all_before : (buf more : List ℕ) → All IsLineByte (buf ++ more) → All IsLineByte buf
all_before buf more all = subst (λ (l : List ℕ). All IsLineByte l) (take-append_seam buf more) (All-take IsLineByte (length buf) (buf ++ more) all)

pub more_on : (buf more : List ℕ) → (IsEnd buf → ⊥) → IsEnd (buf ++ more) → ⊥
more_on buf more not_end end =
    not_end (record { short = (let l = length-append buf more in let e = end.short in omega (arith, l, e)); blank = all_before buf more end.blank })

pub request_on : (s more : List ℕ) (r : Request) (rest : List ℕ) → IsRequest s r rest → IsRequest (s ++ more) r (rest ++ more)
request_on s more r rest is = record {
  head = is.head;
  stands = record {
    reads = subst (λ (l : List ℕ). ReadsRequest (s ++ more) is.head l) (append_assoc r.body.items rest more) (reads_on s more is.head (r.body.items ++ rest) is.stands.reads);
    short = is.stands.short;
    few = is.stands.few;
  };
  sized = is.sized;
  carries = is.carries;
}
