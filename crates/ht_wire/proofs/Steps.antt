-- How bytes are read behind those of a buffer, and where the last read was made.
use Rattle.std.proofs.Common.{◌≡◌, ℕ, ◌+◌, ◌<◌, ◌≤◌, inl, inr, List, [], ◌∷◌, ◌++◌, length, arith, refl, append-nil, append_assoc, length-append, ap, sym, subst, ◌∙◌, Option, Some, None}
use Rattle.ht_outside.specs.Tells.{Flow, Takes}
use Rattle.ht_outside.proofs.PublicLaws.{Takes-none, Takes-trans}
use Rattle.ht_wire.specs.Buffer.{Gains, IsReadOrNone, Stays}
use Rattle.ht_wire.specs.Buffering.{ReadsOn}
use Rattle.ht_wire.specs.Reading.{LastReadWhere}

pub needed_none : (P : List ℕ → Type 0) (f : Option Flow) (old : List ℕ) → LastReadWhere P f f old
needed_none P None old = tt
needed_none P (Some f) old = inl refl

-- where P holds of what is read on from these bytes, so does Q
pub weaker : (P Q : List ℕ → Type 0) (f g : Option Flow) (old : List ℕ) → ((more : List ℕ) → P (old ++ more) → Q (old ++ more)) → LastReadWhere P f g old → LastReadWhere Q f g old
weaker P Q None None old goes a = tt
weaker P Q None (Some g) old goes a = absurd a
weaker P Q (Some f) None old goes a = absurd a
weaker P Q (Some f) (Some g) old goes (inl same) = inl same
weaker P Q (Some f) (Some g) old goes (inr read) = inr (read.0, read.1, goes read.0 read.2)

pub needed_then : (P : List ℕ → Type 0) (f g h : Option Flow) (old mid taken : List ℕ) → Takes f g taken → mid ≡ old ++ taken → LastReadWhere P f g old → LastReadWhere P g h mid → LastReadWhere P f h old
needed_then P None None None old mid taken takes behind a b = tt
needed_then P None None (Some h) old mid taken takes behind a b = absurd b
needed_then P None (Some g) h old mid taken takes behind a b = absurd takes
needed_then P (Some f) None h old mid taken takes behind a b = absurd takes
needed_then P (Some f) (Some g) None old mid taken takes behind a b = absurd b
needed_then P (Some f) (Some g) (Some h) old mid taken takes behind (inl same) (inl kept) = inl (kept ∙ same)
needed_then P (Some f) (Some g) (Some h) old mid taken takes behind (inr read) (inl kept) = inr (read.0, ap (λ (x : Flow). x.before) kept ∙ read.1, read.2)
needed_then P (Some f) (Some g) (Some h) old mid taken takes behind a (inr read) =
    inr (
      taken ++ read.0,
      read.1 ∙ ap (λ (l : List ℕ). l ++ read.0) takes.taken ∙ append_assoc f.taken taken read.0,
      subst P (ap (λ (l : List ℕ). l ++ read.0) behind ∙ append_assoc old taken read.0) read.2,
    )

needed_read : (P : List ℕ → Type 0) (g h : Option Flow) (mid : List ℕ) → P mid → IsReadOrNone g h → LastReadWhere P g h mid
needed_read P None None mid p last = tt
needed_read P None (Some h) mid p (inl same) = absurd (cc)
needed_read P None (Some h) mid p (inr read) = absurd read
needed_read P (Some g) None mid p (inl same) = absurd (cc)
needed_read P (Some g) None mid p (inr read) = absurd read
needed_read P (Some g) (Some h) mid p (inl same) = inl (cc)
needed_read P (Some g) (Some h) mid p (inr read) = inr ([], read ∙ sym (append-nil g.taken), subst P (sym (append-nil mid)) p)

pub took_none : (P : List ℕ → Type 0) (f : Option Flow) (old : List ℕ) → ReadsOn P f f old old
took_none P f old = record { taken = []; takes = Takes-none f; behind = sym (append-nil old); needed = needed_none P f old }

pub took_more : (P : List ℕ → Type 0) (f g h : Option Flow) (old mid new : List ℕ) (n : ℕ) → ReadsOn P f g old mid → P mid → IsReadOrNone g h → Gains g h mid new n → ReadsOn P f h old new
took_more P f g h old mid new n a p last b = record {
  taken = a.taken ++ b.taken;
  takes = Takes-trans f g h a.taken b.taken a.takes b.takes;
  behind = b.behind ∙ ap (λ l. l ++ b.taken) a.behind ∙ append_assoc old a.taken b.taken;
  needed = needed_then P f g h old mid a.taken a.takes a.behind a.needed (needed_read P g h mid p last);
}

-- a read that failed, or found no memory
pub took_still : (P : List ℕ → Type 0) (f g h : Option Flow) (old mid new : List ℕ) → ReadsOn P f g old mid → P mid → IsReadOrNone g h → Stays g h mid new → ReadsOn P f h old new
took_still P f g h old mid new a p last b = record {
  taken = a.taken ++ [];
  takes = Takes-trans f g h a.taken [] a.takes b.takes;
  behind = b.same ∙ a.behind ∙ ap (λ l. old ++ l) (sym (append-nil a.taken));
  needed = needed_then P f g h old mid a.taken a.takes a.behind a.needed (needed_read P g h mid p last);
}

n_positive : (n : ℕ) → (n ≡ 0 → ⊥) → 0 < n
n_positive n some = omega arith

pub grew : (g h : Option Flow) (mid new : List ℕ) (n c : ℕ) → Gains g h mid new n → (n ≡ 0 → ⊥) → c ≤ length mid → c + 1 ≤ length new
grew g h mid new n c b some before =
    let all : length new ≡ length mid + length b.taken = ap (λ l. length l) b.behind ∙ length-append mid b.taken in
    let count = b.counted in
    let more : 0 < n = n_positive n some in
    omega (arith, all, count, before, more)

pub longer : (g h : Option Flow) (mid new : List ℕ) (n : ℕ) → Gains g h mid new n → length mid ≤ length new
longer g h mid new n b = let all : length new ≡ length mid + length b.taken = ap (λ l. length l) b.behind ∙ length-append mid b.taken in omega (arith, all)

no_bytes : (bytes : List ℕ) → length bytes ≡ 0 → bytes ≡ []
no_bytes [] e = refl
no_bytes (b ∷ bytes) e = absurd (omega arith)

pub none_gained : (g h : Option Flow) (mid new : List ℕ) → Gains g h mid new 0 → new ≡ mid
none_gained g h mid new b = b.behind ∙ ap (λ l. mid ++ l) (no_bytes b.taken b.counted) ∙ append-nil mid
