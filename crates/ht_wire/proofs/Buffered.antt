-- How the bytes of a buffer change by a read, and by giving some out.
use Rattle.std.proofs.Common.{◌≡◌, ℕ, ◌+◌, ◌-◌, ◌<◌, ◌≤◌, List, ◌++◌, length, take, drop, slice_range, sym, ap, ◌∙◌, arith, Option}
use Rattle.std.proofs.lemmas.List.{take-append-drop, drop-drop, drop-take, drop-append-le, length-take, length-take-le, length-drop}
use Rattle.std.proofs.Math.Seq.{take-append-add, take-append_seam, take-length}
use Rattle.ht_outside.specs.Tells.{Flow, Takes, IsAtEnd}
use Rattle.ht_wire.specs.Buffer.{Gains}

-- the first n bytes are given out
pub range_later : (bytes : List ℕ) (start end n : ℕ) (old : List ℕ) → slice_range bytes start end ≡ old → n ≤ length old → slice_range bytes (start + n) end ≡ drop n old
range_later bytes start end n old is few =
    let le : length old ≤ end - start = rw (← is, length-take) (omega arith) in
    let cut : end - start ≡ n + (end - (start + n)) = omega arith in
    ap (λ l. take (end - (start + n)) l) (sym (drop-drop n start bytes)) ∙ sym (drop-take n (end - (start + n)) (drop start bytes)) ∙ ap (λ m. drop n (take m (drop start bytes))) (sym cut) ∙ ap (drop n) is

range_behind : (bytes more : List ℕ) (start end n : ℕ) → start ≤ end → length bytes ≡ end → slice_range (bytes ++ more) start (end + n) ≡ drop start bytes ++ take n more
range_behind bytes more start end n order size =
    let len : length (drop start bytes) ≡ end - start = length-drop start bytes ∙ ap (λ m. m - start) size in
    let cut : end + n - start ≡ length (drop start bytes) + n = omega arith in
    ap (λ l. take (end + n - start) l) (drop-append-le start bytes more (omega arith)) ∙ ap (λ m. take m (drop start bytes ++ more)) cut ∙ take-append-add (drop start bytes) more n

-- what was there, and then the bytes read behind it
pub range_gains : (before after : List ℕ) (start end n : ℕ) (old : List ℕ) → slice_range before start end ≡ old → start ≤ end → end ≤ length before → length after ≡ length before → take end after ≡ take end before
    → slice_range after start (end + n) ≡ old ++ take n (drop end after)
range_gains before after start end n old is order within size same =
    let front : length (take end before) ≡ end = length-take-le end before within in
    let whole : after ≡ take end before ++ drop end after = sym (take-append-drop end after) ∙ ap (λ l. l ++ drop end after) same in
    let mine : drop start (take end before) ≡ old = ap (λ m. drop start (take m before)) (let e : end ≡ start + (end - start) = omega arith in e) ∙ drop-take start (end - start) before ∙ is in
    ap (λ l. slice_range l start (end + n)) whole ∙ range_behind (take end before) (drop end after) start end n order front ∙ ap (λ l. l ++ take n (drop end after)) mine

pub fills_gain : (f g : Option Flow) (before after : List ℕ) (start end n : ℕ) (old : List ℕ) → slice_range before start end ≡ old → start ≤ end → end < length before
    → length after ≡ length before → take end after ≡ take end before
    → (n ≤ length (drop end after)) × Takes f g (take n (drop end after)) × (n ≡ 0 → 0 < length (drop end after) → IsAtEnd g)
    → Gains f g old (slice_range after start (end + n)) n
fills_gain f g before after start end n old is order room kept same read =
    let some : 0 < length (drop end after) = rw length-drop (omega (arith, kept, room)) in
    record {
      taken = take n (drop end after);
      takes = read.1;
      counted = length-take-le n (drop end after) read.0;
      behind = range_gains before after start end n old is order (omega (arith, room)) kept same;
      ended = λ none. read.2 none some;
    }

pub moved : (bytes : List ℕ) (start end : ℕ) → start ≤ end → end ≡ length bytes → slice_range (drop start bytes ++ take start bytes) 0 (end - start) ≡ slice_range bytes start end
moved bytes start end order whole =
    let len : length (drop start bytes) ≡ end - start = rw length-drop (omega arith) in
    let cut : end - start - 0 ≡ length (drop start bytes) = omega arith in
    ap (λ m. take m (drop start bytes ++ take start bytes)) cut ∙ take-append_seam (drop start bytes) (take start bytes) ∙ sym (ap (λ m. take m (drop start bytes)) (sym len) ∙ take-length (drop start bytes))
