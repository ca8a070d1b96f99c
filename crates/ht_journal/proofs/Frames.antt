-- What files of frames stand for.
use Rattle.std.proofs.Common.{◌≡◌, ◌≢◌, inl, inr, ⊎_elim, ℕ, suc, ◌+◌, ◌*◌, ◌^◌, ◌<◌, ◌≤◌, ◌&&◌, true, false, cond, List, [], ◌∷◌, ◌++◌, length, take, drop, refl, sym, ◌∙◌, ap, subst, arith, append_assoc, length-append, Result, Ok, Err, nat_le, nat_lt}
use Rattle.std.specs.List.{AllByRecursion}
use Rattle.std.proofs.lemmas.List.{append-nil, take_at, drop_at, nil_from_length}
use Rattle.std.proofs.lemmas.Bool.{cases_lt}
use Rattle.std.proofs.lemmas.Bool.Decides.{nat_tests}
use Rattle.std.proofs.lemmas.Nat.{from_le_bytes-to_le_bytes_4}
use Rattle.ht_journal.specs.declared.limits.TheConstants.{LONGEST_BODY}
use Rattle.ht_journal.specs.Files.{header, length_bytes, length_at, frame, frames, front, is_whole, with_body, bodies_from, contents, Fit, Rests, journal_length}

pub length-length_bytes : (n : ℕ) → length (length_bytes n) ≡ 4
unfolding length_bytes
length-length_bytes n = refl

-- the length that a frame begins with
pub length_at-frame : (n : ℕ) (rest : List ℕ) → n < 2 ^ 32 → length_at (length_bytes n ++ rest) ≡ n
unfolding length_bytes length_at
length_at-frame n rest small = from_le_bytes-to_le_bytes_4 n small

pub length-frame : (body : List ℕ) → length (frame body) ≡ 4 + length body
length-frame body = length-append (length_bytes (length body)) body ∙ ap (λ n. n + length body) (length-length_bytes (length body))

pub frames-append : (xs ys : List (List ℕ)) → frames (xs ++ ys) ≡ frames xs ++ frames ys
frames-append [] ys = refl
frames-append (x ∷ xs) ys = ap (λ (l : List ℕ). 1 ∷ l) (ap (λ (l : List ℕ). frame x ++ l) (frames-append xs ys) ∙ sym (append_assoc (frame x) (frames xs) (frames ys)))

-- open gates and frames behind a front
pub front-append : (xs ys : List (List ℕ)) (rest : List ℕ) → front (xs ++ ys) ++ rest ≡ front xs ++ (frames ys ++ rest)
front-append xs ys rest =
    ap (λ (l : List ℕ). (header ++ l) ++ rest) (frames-append xs ys)
    ∙ ap (λ (l : List ℕ). l ++ rest) (sym (append_assoc header (frames xs) (frames ys)))
    ∙ append_assoc (front xs) (frames ys) rest

pub length-front : (xs : List (List ℕ)) → length (front xs) ≡ 8 + length (frames xs)
length-front xs = length-append header (frames xs)

-- the place behind the closed gate, added up body by body
pub front_length : (xs : List (List ℕ)) → length (front xs) + 1 ≡ journal_length xs
front_length [] = refl
front_length (x ∷ xs) = omega (arith, length-front (x ∷ xs), length-front xs, length-append (frame x) (frames xs), length-frame x, front_length xs)

pub length-front_push : (xs : List (List ℕ)) (x : List ℕ) → length (front (xs ++ x ∷ [])) ≡ length (front xs) + (5 + length x)
length-front_push xs x =
    let a = length-front (xs ++ x ∷ []) in
    let b = length-front xs in
    let e : length (frames (xs ++ x ∷ [])) ≡ length (frames xs) + (1 + length (frame x ++ [])) = ap length (frames-append xs (x ∷ [])) ∙ (length-append (frames xs) (frames (x ∷ [])) ∙ omega arith) in
    let g : length (frame x ++ []) ≡ 4 + length x = ap length (append-nil (frame x)) ∙ length-frame x in
    omega arith

-- each frame has five bytes at least
pub count_front : (xs : List (List ℕ)) → 8 + 5 * length xs ≤ length (front xs)
count_front xs = omega (arith, length-front xs, by_frames xs)
  where
    by_frames : (xs : List (List ℕ)) → 5 * length xs ≤ length (frames xs)
    by_frames [] = omega arith
    by_frames (x ∷ xs) = omega (arith, length-append (frame x) (frames xs), length-frame x, by_frames xs)

pub with_bodies : List (List ℕ) → Result (List (List ℕ)) ℕ → Result (List (List ℕ)) ℕ
with_bodies [] r = r
with_bodies (x ∷ xs) r = with_body x (with_bodies xs r)

pub with_bodies-ok : (xs ys : List (List ℕ)) → with_bodies xs (Ok ys) ≡ Ok (xs ++ ys)
unfolding with_bodies
with_bodies-ok [] ys = refl
with_bodies-ok (x ∷ xs) ys = ap (with_body x) (with_bodies-ok xs ys)

pub with_bodies-err : (xs : List (List ℕ)) (at : ℕ) → with_bodies xs (Err at) ≡ Err at
unfolding with_bodies
with_bodies-err [] at = refl
with_bodies-err (x ∷ xs) at = ap (with_body x) (with_bodies-err xs at)

-- bytes that are passed over
pub walk_over : (at : ℕ) (xs rest : List ℕ) → bodies_from at (length xs) (xs ++ rest) ≡ bodies_from (at + length xs) 0 rest
unfolding bodies_from
walk_over at [] rest = ap (λ n. bodies_from n 0 rest) (omega arith)
walk_over at (x ∷ xs) rest = walk_over (suc at) xs rest ∙ ap (λ n. bodies_from n 0 rest) (omega arith)

pub walk_closed : (at gate : ℕ) (rest : List ℕ) → gate ≢ 1 → bodies_from at 0 (gate ∷ rest) ≡ Ok []
unfolding bodies_from
walk_closed at gate rest shut = grind (arith, nat_tests)

pub walk_broken : (at : ℕ) (rest : List ℕ) → is_whole at rest ≡ false → bodies_from at 0 (1 ∷ rest) ≡ Err at
unfolding bodies_from
walk_broken at rest broken = ap (λ b. cond b (with_body (take (length_at rest) (drop 4 rest)) (bodies_from (suc at) (4 + length_at rest) rest)) (Err at)) broken

pub is_whole-frame : (at : ℕ) (body rest : List ℕ) → length body ≤ LONGEST_BODY → 0 < length rest → at + 5 + length body < 2 ^ 32 → is_whole at (frame body ++ rest) ≡ true
is_whole-frame at body rest small more reach =
    let e : length_at (frame body ++ rest) ≡ length body = ap length_at (append_assoc (length_bytes (length body)) body rest) ∙ length_at-frame (length body) (body ++ rest) (omega arith) in
    let l : length (frame body ++ rest) ≡ 4 + length body + length rest = length-append (frame body) rest ∙ ap (λ n. n + length rest) (length-frame body) in
    ap (λ n. nat_le n LONGEST_BODY && (nat_lt (4 + n) (length (frame body ++ rest)) && nat_lt (at + 5 + n) (2 ^ 32))) e ∙ grind (arith, nat_tests)

pub walk_frame : (at : ℕ) (body rest : List ℕ) → length body ≤ LONGEST_BODY → 0 < length rest → at + 5 + length body < 2 ^ 32 → bodies_from at 0 (1 ∷ (frame body ++ rest)) ≡ with_body body (bodies_from (at + 5 + length body) 0 rest)
unfolding bodies_from
walk_frame at body rest small more reach =
    let all : List ℕ = frame body ++ rest in
    let regroup : all ≡ length_bytes (length body) ++ (body ++ rest) = append_assoc (length_bytes (length body)) body rest in
    let e : length_at all ≡ length body = ap length_at regroup ∙ length_at-frame (length body) (body ++ rest) (omega arith) in
    let taken : take (length_at all) (drop 4 all) ≡ body =
    ap (λ n. take n (drop 4 all)) e ∙ ap (λ (l : List ℕ). take (length body) (drop 4 l)) regroup ∙ ap (take (length body)) (drop_at (length_bytes (length body)) (body ++ rest) 4 (length-length_bytes (length body))) ∙ take_at body rest (length body) refl in
    let over : bodies_from (suc at) (4 + length_at all) all ≡ bodies_from (at + 5 + length body) 0 rest =
    ap (λ n. bodies_from (suc at) n all) (ap (λ n. 4 + n) e ∙ sym (length-frame body)) ∙ walk_over (suc at) (frame body) rest ∙ ap (λ n. bodies_from n 0 rest) (omega (arith, length-frame body)) in
    ap (λ b. cond b (with_body (take (length_at all) (drop 4 all)) (bodies_from (suc at) (4 + length_at all) all)) (Err at)) (is_whole-frame at body rest small more reach)
    ∙ ap (λ (l : List ℕ). with_body l (bodies_from (suc at) (4 + length_at all) all)) taken
    ∙ ap (with_body body) over

pub walk_frames : (xs : List (List ℕ)) (at : ℕ) (rest : List ℕ) → AllByRecursion (λ x. length x ≤ LONGEST_BODY) xs → 0 < length rest → at + length (frames xs) < 2 ^ 32 → bodies_from at 0 (frames xs ++ rest) ≡ with_bodies xs (bodies_from (at + length (frames xs)) 0 rest)
unfolding with_bodies
walk_frames [] at rest small more reach = ap (λ n. bodies_from n 0 rest) (omega arith)
walk_frames (x ∷ xs) at rest small more reach =
    let l : length (frame x ++ frames xs) ≡ 4 + length x + length (frames xs) = length-append (frame x) (frames xs) ∙ ap (λ n. n + length (frames xs)) (length-frame x) in
    let some : 0 < length (frames xs ++ rest) = omega (arith, length-append (frames xs) rest) in
    ap (λ (l : List ℕ). bodies_from at 0 (1 ∷ l)) (append_assoc (frame x) (frames xs) rest)
    ∙ walk_frame at x (frames xs ++ rest) small.0 some (omega arith)
    ∙ ap (with_body x) (walk_frames xs (at + 5 + length x) rest small.1 more (omega arith) ∙ ap (λ n. with_bodies xs (bodies_from n 0 rest)) (omega arith))

-- a file with more than 9 bytes and the header
pub contents_header : (rest : List ℕ) → 1 < length rest → contents (header ++ rest) ≡ bodies_from 8 0 rest
unfolding contents
contents_header rest long = ap (λ b. cond b (Ok []) (bodies_from 8 0 rest)) (short (length (header ++ rest)) (omega (arith, length-append header rest)))
  where
    short : (n : ℕ) → 9 < n → nat_le n 9 ≡ false
    short n more = grind (arith, nat_tests)

pub contents_short : (file : List ℕ) → length file ≤ 9 → contents file ≡ Ok []
unfolding contents
contents_short file short = grind (arith, nat_tests)

pub contents_front : (xs : List (List ℕ)) (rest : List ℕ) → Fit xs → 0 < length rest → 9 < length (front xs ++ rest) → contents (front xs ++ rest) ≡ with_bodies xs (bodies_from (length (front xs)) 0 rest)
contents_front xs rest fit more long =
    let l : length (frames xs ++ rest) ≡ length (frames xs) + length rest = length-append (frames xs) rest in
    let k : length (front xs ++ rest) ≡ length (front xs) + length rest = length-append (front xs) rest in
    let f = length-front xs in
    let r = fit.reach in
    ap contents (append_assoc header (frames xs) rest)
    ∙ contents_header (frames xs ++ rest) (omega arith)
    ∙ walk_frames xs 8 rest fit.small more (omega arith)
    ∙ ap (λ n. with_bodies xs (bodies_from n 0 rest)) (omega arith)

-- what a closed gate ends
pub contents_rests : (xs : List (List ℕ)) (file : List ℕ) → Fit xs → Rests xs file → contents file ≡ Ok xs
contents_rests xs file fit r = ⊎_elim
    (λ (short : length file ≤ 9). contents_short file short ∙ ap Ok (sym (none short)))
    (λ (long : 9 < length file).
    ap contents r.split ∙ contents_front xs (r.gate ∷ r.rest) fit (omega arith) (subst (λ (l : List ℕ). 9 < length l) r.split long)
    ∙ ap (with_bodies xs) (walk_closed (length (front xs)) r.gate r.rest r.closed) ∙ with_bodies-ok xs [] ∙ ap Ok (append-nil xs))
    (⊎_elim (λ (lt : length file < 10). inl (omega arith)) (λ (ge : 10 ≤ length file). inr (omega arith)) (cases_lt (length file) 10))
  where
    none : length file ≤ 9 → xs ≡ []
    none short =
        let counted = count_front xs in
        let l : length file ≡ length (front xs) + suc (length r.rest) = ap length r.split ∙ length-append (front xs) (r.gate ∷ r.rest) in
        nil_from_length xs (omega arith)
