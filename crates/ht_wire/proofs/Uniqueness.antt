-- What stands at the front of a stream is one thing: the end, one request, or a refusal, whose code
-- is one but in the corners.
use Rattle.std.proofs.Common.{◌≡◌, ◌⊎◌, inl, inr, ℕ, ◌-◌, ◌<◌, ◌≤◌, List, [], ◌∷◌, ◌++◌, length, take, drop, arith, refl, append-nil, append_assoc, length-append, ap, sym, subst, ◌∙◌, Option, Some, None, Ok, Err}
use Rattle.std.specs.Prelude.{All}
use Rattle.std.proofs.lemmas.List.Elements.{All-drop}
use Rattle.std.proofs.Math.Seq.{drop-append_seam, take-append_seam}
use Rattle.httparse.specs.Grammar.{RequestHead, print_request, ReadsRequest, NeverHasRequest, MayBecomeRequest}
use Rattle.httparse.proofs.GrammarLemmas.{request_unique, print_request-append}
use Rattle.ht_outside.specs.Tells.{Flow, Takes}
use Rattle.ht_wire.specs.declared.limits.TheConstants.{LONGEST_HEAD, MOST_FIELDS}
use Rattle.ht_wire.specs.declared.reading.Next.{Next}
use Rattle.ht_wire.specs.declared.reading.Next.TheVariants as next
use Rattle.ht_wire.specs.declared.request.Request.{Request}
use Rattle.ht_wire.specs.Bodies.{announced}
use Rattle.ht_wire.specs.Fields.{is_last, person_of}
use Rattle.ht_wire.specs.Heads.{IsEnd, IsHead, IsTooLong, IsNoHead, IsCorner, IsLineByte, fields_of}
use Rattle.ht_wire.specs.Reading.{Finds, IsEither, IsTrueTo, IsExact}
use Rattle.ht_wire.specs.Requests.{IsRequest, IsRefused, IsReason, IsSame, IsBadBody, IsCutShort, IsUnfinished}
use Rattle.ht_wire.specs.Window.{front}
use Rattle.ht_wire.proofs.Outcomes.{front_of, request_on}

-- ---- heads

-- a head stands whole in the front of the stream
in_front : (s : List ℕ) (h : RequestHead) (rest : List ℕ) → IsHead s h rest → (more : List ℕ) × ReadsRequest (front s) h more
in_front s h rest head = (take (LONGEST_HEAD - length (print_request h)) rest, (head.reads.0, ap (λ l. front l) head.reads.1 ∙ front_of (print_request h) rest head.short))

with_none : (bytes : List ℕ) (h : RequestHead) (rest : List ℕ) → ReadsRequest bytes h rest → ReadsRequest (bytes ++ []) h rest
with_none bytes h rest reads = rw append-nil reads

all_behind : (a b : List ℕ) → All IsLineByte (a ++ b) → All IsLineByte b
all_behind a b all = subst (λ (l : List ℕ). All IsLineByte l) (drop-append_seam a b) (All-drop IsLineByte (length a) (a ++ b) all)

no_line_byte : (b : ℕ) → b ≡ 32 → IsLineByte b → ⊥
no_line_byte b space (inl e) = absurd (omega arith)
no_line_byte b space (inr e) = absurd (omega arith)

-- a head has a space
space_inside : (a b c : List ℕ) → All IsLineByte (a ++ (b ++ 32 ∷ c)) → ⊥
space_inside a b c all = no_line_byte 32 refl (all_behind b (32 ∷ c) (all_behind a (b ++ 32 ∷ c) all) 0 0 (omega arith))

pub head_or_end : (s : List ℕ) (h : RequestHead) (rest : List ℕ) → IsHead s h rest → IsEnd s → ⊥
head_or_end s h rest head end = space_inside _ _ _ (subst (λ (l : List ℕ). All IsLineByte l) (head.reads.1 ∙ print_request-append h rest) end.blank)

pub head_or_long : (s : List ℕ) (h : RequestHead) (rest : List ℕ) → IsHead s h rest → IsTooLong s → ⊥
head_or_long s h rest head (inl both) = let reads = in_front s h rest head in let over : MOST_FIELDS < length h.fields = both.1 [] h reads.0 (with_none (front s) h reads.0 reads.1) in let few = head.few in omega arith
head_or_long s h rest head (inr full) = let reads = in_front s h rest head in full.1 h reads.0 reads.1

pub head_or_none : (s : List ℕ) (h : RequestHead) (rest : List ℕ) → IsHead s h rest → IsNoHead s → ⊥
head_or_none s h rest head (inl never) = let reads = in_front s h rest head in never [] h reads.0 (with_none (front s) h reads.0 reads.1)
head_or_none s h rest head (inr ended) = let reads = in_front s h rest head in ended.1 h reads.0 reads.1

never_or_may : (s : List ℕ) → LONGEST_HEAD ≤ length s → NeverHasRequest (front s) → MayBecomeRequest (front s) → IsCorner s
never_or_may s long never (inl may) = absurd (never may.0 may.1 [] may.2)
never_or_may s long never (inr ends) = inl (long, ends)

pub long_or_none : (s : List ℕ) → IsTooLong s → IsNoHead s → IsCorner s
long_or_none s (inl both) none = inr both.0
long_or_none s (inr full) (inl never) = never_or_may s full.0 never full.2
long_or_none s (inr full) (inr ended) = absurd (let a = full.0 in let b = ended.0 in omega arith)

-- ---- requests

-- two cuts of one list behind equally many
same_parts : (a b c d : List ℕ) → length a ≡ length c → a ++ b ≡ c ++ d → (a ≡ c) × (b ≡ d)
same_parts a b c d count e = (
  sym (take-append_seam a b) ∙ ap (λ n. take n (a ++ b)) count ∙ ap (take (length c)) e ∙ take-append_seam c d,
  sym (drop-append_seam a b) ∙ ap (λ n. drop n (a ++ b)) count ∙ ap (drop (length c)) e ∙ drop-append_seam c d,
)

-- two requests of one stream have one head, and their bodies are equally long
same_heads : (s : List ℕ) (q r : Request) (rest more : List ℕ) (a : IsRequest s q rest) (b : IsRequest s r more) → (a.head ≡ b.head) × (q.body.items ≡ r.body.items) × (rest ≡ more)
same_heads s q r rest more a b =
    let same = request_unique s a.head b.head (q.body.items ++ rest) (r.body.items ++ more) a.stands.reads b.stands.reads in
    let mine : announced (fields_of b.head) ≡ Ok (length q.body.items) = ap (λ (h : RequestHead). announced (fields_of h)) (sym same.0) ∙ a.sized in
    let its = b.sized in
    let parts = same_parts q.body.items rest r.body.items more (cc) same.1 in
    (same.0, parts.0, parts.1)

pub one_request : (s : List ℕ) (q r : Request) (rest more : List ℕ) → IsRequest s q rest → IsRequest s r more → IsSame r q × (rest ≡ more)
one_request s q r rest more a b =
    let same = same_heads s q r rest more a b in (
      record {
        method = b.carries.method_is ∙ ap (λ (h : RequestHead). h.method) (sym same.0) ∙ sym a.carries.method_is;
        target = b.carries.target_is ∙ ap (λ (h : RequestHead). h.target) (sym same.0) ∙ sym a.carries.target_is;
        person = b.carries.person_is ∙ ap (λ (h : RequestHead). person_of (fields_of h)) (sym same.0) ∙ sym a.carries.person_is;
        last = b.carries.last_is ∙ ap (λ (h : RequestHead). is_last h.minor (fields_of h)) (sym same.0) ∙ sym a.carries.last_is;
        body = sym same.1;
      },
      same.2,
    )

pub request_or_end : (s : List ℕ) (r : Request) (rest : List ℕ) → IsRequest s r rest → IsEnd s → ⊥
request_or_end s r rest a end = head_or_end s a.head (r.body.items ++ rest) a.stands end

-- where bytes are missing, no request stands whole
pub request_or_unfinished : (s : List ℕ) (r : Request) (rest : List ℕ) → IsRequest s r rest → IsUnfinished s → ⊥
request_or_unfinished s r rest a (inl end) = request_or_end s r rest a end
request_or_unfinished s r rest a (inr (inl begun)) = begun.none a.head (r.body.items ++ rest) (a.stands).reads
request_or_unfinished s r rest a (inr (inr without)) =
    let same = request_unique s without.0 a.head without.1 (r.body.items ++ rest) (without.2).reads (a.stands).reads in
    let mine : IsCutShort (fields_of a.head) (r.body.items ++ rest) = subst (λ (h : RequestHead). IsCutShort (fields_of h) (r.body.items ++ rest)) same.0 (subst (λ (l : List ℕ). IsCutShort (fields_of without.0) l) same.1 without.3) in
    let n : mine.0 ≡ length r.body.items = (let is = mine.1 in let its = a.sized in cc) in
    let all = length-append r.body.items rest in
    let short = mine.2 in
    omega (arith, n, all, short)

-- why a body is refused, of one head
abbrev IsWhy : RequestHead → List ℕ → ℕ → Type 0
IsWhy h behind code = (announced (fields_of h) ≡ Err code) ⊎ ((code ≡ 400) × IsCutShort (fields_of h) behind)

why_not : (h : RequestHead) (body rest : List ℕ) (code : ℕ) → announced (fields_of h) ≡ Ok (length body) → IsWhy h (body ++ rest) code → ⊥
why_not h body rest code sized (inl e) = absurd (cc)
why_not h body rest code sized (inr cut) =
    let n : cut.1.0 ≡ length body = (let is = cut.1.1 in cc) in
    let all = length-append body rest in
    let short = cut.1.2 in
    omega (arith, n, all, short)

one_why : (h : RequestHead) (behind : List ℕ) (c d : ℕ) → IsWhy h behind c → IsWhy h behind d → d ≡ c
one_why h behind c d (inl a) (inl b) = cc
one_why h behind c d (inl a) (inr b) = absurd (let is = b.1.1 in cc)
one_why h behind c d (inr a) (inl b) = absurd (let is = a.1.1 in cc)
one_why h behind c d (inr a) (inr b) = b.0 ∙ sym a.0

-- the reason of another head of one stream is one of this head
why_of : (s : List ℕ) (h : RequestHead) (behind : List ℕ) (code : ℕ) → IsHead s h behind → IsBadBody s code → IsWhy h behind code
why_of s h behind code head bad =
    let same = request_unique s bad.0 h bad.1 behind bad.2.reads head.reads in
    subst (λ (k : RequestHead). IsWhy k behind code) same.0 (subst (λ (l : List ℕ). IsWhy bad.0 l code) same.1 bad.3)

pub request_or_refused : (s : List ℕ) (r : Request) (rest : List ℕ) (code : ℕ) → IsRequest s r rest → IsRefused s code → ⊥
request_or_refused s r rest code a refused = by_reason refused.why
  where
    by_reason : IsReason s code → ⊥
    by_reason (inl long) = head_or_long s a.head (r.body.items ++ rest) a.stands long.1
    by_reason (inr (inl none)) = head_or_none s a.head (r.body.items ++ rest) a.stands none.1
    by_reason (inr (inr bad)) = why_not a.head r.body.items rest code a.sized (why_of s a.head (r.body.items ++ rest) code a.stands bad)

-- ---- refusals

pub one_reason : (s : List ℕ) (c d : ℕ) → IsReason s c → IsReason s d → (d ≡ c) ⊎ IsEither s c d
one_reason s c d (inl a) (inl b) = inl (b.0 ∙ sym a.0)
one_reason s c d (inl a) (inr (inl b)) = inr (long_or_none s a.1 b.1, inl (a.0, b.0))
one_reason s c d (inl a) (inr (inr b)) = absurd (head_or_long s b.0 b.1 b.2 a.1)
one_reason s c d (inr (inl a)) (inl b) = inr (long_or_none s b.1 a.1, inr (a.0, b.0))
one_reason s c d (inr (inl a)) (inr (inl b)) = inl (b.0 ∙ sym a.0)
one_reason s c d (inr (inl a)) (inr (inr b)) = absurd (head_or_none s b.0 b.1 b.2 a.1)
one_reason s c d (inr (inr a)) (inl b) = absurd (head_or_long s a.0 a.1 a.2 b.1)
one_reason s c d (inr (inr a)) (inr (inl b)) = absurd (head_or_none s a.0 a.1 a.2 b.1)
one_reason s c d (inr (inr a)) (inr (inr b)) = inl (one_why a.0 a.1 c d a.3 (why_of s a.0 a.1 d a.2 b))

-- ---- answers

-- the answer stands in the stream
abbrev Stands : List ℕ → Next → Type 0
Stands stream (next.Request r) = (rest : List ℕ) × IsRequest stream r rest
Stands stream next.End = IsEnd stream
Stands stream (next.Refused code) = IsRefused stream code
Stands stream next.ReadFault = Unit {0}
Stands stream next.Memory = Unit {0}

true_to : (s : List ℕ) (n : Next) → Stands s n → IsTrueTo s n
true_to s (next.Request q) a = record {
  request = λ r rest b. inl (one_request s q r a.0 rest a.1 b).0;
  end = λ end. absurd (request_or_end s q a.0 a.1 end);
  refused = λ code refused. absurd (request_or_refused s q a.0 code a.1 refused);
}
true_to s next.End a = record {
  request = λ r rest b. absurd (request_or_end s r rest b a);
  end = λ end. inl refl;
  refused = λ code refused. absurd (refused.more a);
}
true_to s (next.Refused c) a = record {
  request = λ r rest b. absurd (request_or_refused s r rest c b a);
  end = λ end. absurd (a.more end);
  refused = λ code refused. inl (one_reason s code c refused.why a.why);
}
true_to s next.ReadFault a = record { request = λ r rest b. inr tt; end = λ end. inr tt; refused = λ code refused. inr tt }
true_to s next.Memory a = record { request = λ r rest b. inr tt; end = λ end. inr tt; refused = λ code refused. inr tt }

found_stands : (bytes new : List ℕ) (g : Flow) (n : Next) → Finds bytes (Some g) new n → Stands (bytes ++ g.left) n
found_stands bytes new g (next.Request r) finds = (new ++ g.left, request_on bytes g.left r new finds)
found_stands bytes new g next.End finds = subst IsEnd (sym (append-nil bytes) ∙ ap (λ l. bytes ++ l) (sym finds.1.0)) finds.1.1
found_stands bytes new g (next.Refused code) finds = finds.1.1
found_stands bytes new g next.ReadFault finds = tt
found_stands bytes new g next.Memory finds = tt

pub exact_of : (f g : Option Flow) (old new taken : List ℕ) (n : Next) → Takes f g taken → Finds (old ++ taken) g new n → IsExact f old n
exact_of None g old new taken n takes finds = tt
exact_of (Some f) None old new taken n takes finds = absurd takes
exact_of (Some f) (Some g) old new taken n takes finds =
    let whole : old ++ (taken ++ g.left) ≡ old ++ f.left = ap (λ l. old ++ l) (sym takes.left) in
    true_to (old ++ f.left) n (subst (λ (l : List ℕ). Stands l n) (append_assoc old taken g.left ∙ whole) (found_stands (old ++ taken) new g n finds))
