-- What is known of the last readings when the file changes, or when there are more bodies.
use Rattle.std.proofs.Common.{◌≡◌, ℕ, ◌+◌, ◌≤◌, List, ◌++◌, length, take, drop, refl, sym, ◌∙◌, ap, subst, Option, Some, None, IfSome}
use Rattle.std.proofs.lemmas.List.{take-append-le, take-take, drop-take, drop-drop}
use Rattle.ht_outside.specs.Disks.{Both}
use Rattle.ht_journal.specs.declared.state.Reader.{Reader}
use Rattle.ht_journal.specs.Files.{front}
use Rattle.ht_journal.specs.Pieces.{IsPiece, IsRead}
use Rattle.ht_journal.proofs.Moments.{both_told, told_weaker}

-- of no bytes anything may be said
pub nothing_held : (reader : Reader) (file : List ℕ) → reader.held ≡ 0 → IsPiece reader file
nothing_held reader file none = subst (λ n. take n reader.bytes.items ≡ take n (drop reader.from file)) (sym none) refl

-- before the first gate, when nothing was read
pub told_start : (o : Option (List ℕ)) (bodies : List (List ℕ)) (reader : Reader) → reader.held ≡ 0 → reader.gate ≡ 8 → reader.passed ≡ 0 → IfSome o (IsRead bodies reader)
told_start None bodies reader none gate passed = tt
told_start (Some file) bodies reader none gate passed = record {
  piece = nothing_held reader file none;
  gate = gate ∙ ap (λ n. length (front (take n bodies))) (sym passed);
}

-- a reader that holds nothing more may go on with another file
pub forgets : (bodies : List (List ℕ)) (reader other : Reader) (old new : List ℕ) → other.held ≡ 0 → other.gate ≡ reader.gate → other.passed ≡ reader.passed → IsRead bodies reader old → IsRead bodies other new
forgets bodies reader other old new none gate passed read = record {
  piece = nothing_held other new none;
  gate = gate ∙ read.gate ∙ ap (λ n. length (front (take n bodies))) (sym passed);
}

pub told_forgets : (step : List ℕ → List ℕ → Type 0) (old new : Option (List ℕ)) (bodies : List (List ℕ)) (reader other : Reader) → other.held ≡ 0 → other.gate ≡ reader.gate → other.passed ≡ reader.passed → Both step old new → IfSome old (IsRead bodies reader) → IfSome new (IsRead bodies other)
told_forgets step old new bodies reader other none gate passed both told = both_told step old new (IsRead bodies reader) (IsRead bodies other) both told (λ d c read _. forgets bodies reader other d c none gate passed read)

-- over two steps
pub told_forgets_twice : (step next : List ℕ → List ℕ → Type 0) (old mid new : Option (List ℕ)) (bodies : List (List ℕ)) (reader other : Reader) → other.held ≡ 0 → other.gate ≡ reader.gate → other.passed ≡ reader.passed → Both step old mid → Both next mid new → IfSome old (IsRead bodies reader) → IfSome new (IsRead bodies other)
told_forgets_twice step next old mid new bodies reader other none gate passed both then told =
    let first : IfSome mid (λ _. (file : List ℕ) × IsRead bodies reader file) = both_told step old mid (IsRead bodies reader) _ both told (λ d c read _. (d, read)) in
    both_told next mid new _ (IsRead bodies other) then first (λ d c p _. forgets bodies reader other p.0 c none gate passed p.1)

-- more bodies leave what was passed
pub grows : (bodies more : List (List ℕ)) (reader : Reader) (file : List ℕ) → reader.passed ≤ length bodies → IsRead bodies reader file → IsRead (bodies ++ more) reader file
grows bodies more reader file within read = record {
  piece = read.piece;
  gate = read.gate ∙ ap (λ (l : List (List ℕ)). length (front l)) (sym (take-append-le reader.passed bodies more within));
}

pub told_grows : (o : Option (List ℕ)) (bodies more : List (List ℕ)) (reader : Reader) → reader.passed ≤ length bodies → IfSome o (IsRead bodies reader) → IfSome o (IsRead (bodies ++ more) reader)
told_grows o bodies more reader within told = told_weaker o (IsRead bodies reader) (IsRead (bodies ++ more) reader) (λ file read. grows bodies more reader file within read) told

-- the bytes of a piece from a place on are those of the file
pub piece_bytes : (bytes file : List ℕ) (held from at start n : ℕ) → take held bytes ≡ take held (drop from file) → from + start ≡ at → start + n ≤ held → take n (drop start bytes) ≡ take n (drop at file)
piece_bytes bytes file held from at start n same place within =
    let fronts : take (start + n) bytes ≡ take (start + n) (drop from file) =
    sym (take-take (start + n) held bytes within) ∙ ap (take (start + n)) same ∙ take-take (start + n) held (drop from file) within in
    sym (drop-take start n bytes) ∙ ap (drop start) fronts ∙ drop-take start n (drop from file) ∙ ap (take n) (drop-drop start from file ∙ ap (λ k. drop k file) place)

pub told_bytes : (o : Option (List ℕ)) (reader : Reader) (at start n : ℕ) (into : List ℕ) → IfSome o (IsPiece reader) → reader.from + start ≡ at → start + n ≤ reader.held → into ≡ take n (drop start reader.bytes.items) → IfSome o (λ file. into ≡ take n (drop at file))
told_bytes o reader at start n into told place within is = told_weaker o (IsPiece reader) (λ file. into ≡ take n (drop at file)) (λ file piece. is ∙ piece_bytes reader.bytes.items file reader.held reader.from at start n piece place within) told
