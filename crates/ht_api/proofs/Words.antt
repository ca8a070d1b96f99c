-- Routes of a word and parameters behind it: the first is found whose word and number of parameters are those
-- of the path.
use Rattle.std.proofs.Common.{inl, inr, ◌≡◌, ◌∙◌, sym, ap, refl, subst, ℕ, ◌<◌, ◌==◌, ◌&&◌, Bool, true, false, not, cond, List, [], ◌∷◌, ◌++◌, Option, Some, None, bytes_eq, if◌then◌else◌, nat_lt, arith}
use Rattle.std.specs.Char.{is_ascii}
use Rattle.std.specs.List.{list_all}
use Rattle.std.proofs.lemmas.Bool.{and_parts, eqb-true, ltb-true}
use Rattle.std.proofs.lemmas.Bool.Decides.{eqb_tells}
use Rattle.std.proofs.lemmas.Cmp.{nat_eq_equiv}
use Rattle.matchit.specs.Rows.{RowsOf}
use Rattle.matchit.specs.Seek.{own, seek, step}
use Rattle.ht_api.specs.Routes.{has_bytes, parts, with_byte}
use Rattle.ht_api.proofs.Alike.{by_byte, front, own_front, parts_some, seek_front}
use Rattle.ht_api.proofs.Chains.{as_many, chain_found, chains, of_count, tail}

-- a byte of a word is no slash and no parameter
abbrev pub is_letter : ℕ → Bool
is_letter x = not (x == 47) && nat_lt x 256

record IsLetter (x : ℕ) : Type 0 where
  slash : (x == 47) ≡ false
  param : (x == 256) ≡ false
  rest : (x == 257) ≡ false

no_slash : (t : Bool) → not t ≡ true → t ≡ false
no_slash true h = cc
no_slash false h = refl

other : (x y : ℕ) → x < 256 → 255 < y → (x == y) ≡ false
other x y l h = at (x == y) refl
  where
    at : (same : Bool) → (x == y) ≡ same → same ≡ false
    at false e = refl
    at true e = let is = eqb-true x y e in absurd (omega arith)

letter : (x : ℕ) → is_letter x ≡ true → IsLetter x
letter x h =
    let p = and_parts (not (x == 47)) (nat_lt x 256) h in
    let low = ltb-true x 256 p.1 in
    record { slash = no_slash (x == 47) p.0; param = other x 256 low (omega arith); rest = other x 257 low (omega arith) }

module _ {K : Type 0} where
  -- what stands behind the first slash
  abbrev pub behind : List (List ℕ × List (List ℕ) × K) → RowsOf K
  behind [] = []
  behind ((w, os, k) ∷ ls) = (w ++ tail os, k) ∷ behind ls

  -- their words are of letters
  abbrev pub have_letters : List (List ℕ × List (List ℕ) × K) → Bool
  have_letters [] = true
  have_letters ((w, os, k) ∷ ls) = list_all is_letter w && have_letters ls

  -- those whose word goes on with a byte, with the byte gone
  abbrev strip : ℕ → List (List ℕ × List (List ℕ) × K) → List (List ℕ × List (List ℕ) × K)
  strip b [] = []
  strip b (([], os, k) ∷ ls) = strip b ls
  strip b ((x ∷ w, os, k) ∷ ls) = if x == b then (w, os, k) ∷ strip b ls else strip b ls

  -- those whose word is over, behind the next slash
  abbrev ended : List (List ℕ × List (List ℕ) × K) → List (List (List ℕ) × K)
  ended [] = []
  ended (([], [], k) ∷ ls) = ended ls
  ended (([], o ∷ os, k) ∷ ls) = (os, k) ∷ ended ls
  ended ((x ∷ w, os, k) ∷ ls) = ended ls

  -- the first of a word and as many parts
  abbrev pub line_for : List (List ℕ × List (List ℕ) × K) → List ℕ → List (List ℕ) → Option K
  line_for [] word ps = None
  line_for ((w, os, k) ∷ ls) word ps = if bytes_eq w word && as_many os ps then Some k else line_for ls word ps

  abbrev pub chosen : List (List ℕ × List (List ℕ) × K) → List (List ℕ) → Option K
  chosen ls [] = None
  chosen ls (word ∷ ps) = if list_all has_bytes ps then line_for ls word ps else None

  strip_letters : (b : ℕ) (ls : List (List ℕ × List (List ℕ) × K)) → have_letters ls ≡ true → have_letters (strip b ls) ≡ true
  strip_letters b [] h = refl
  strip_letters b (([], os, k) ∷ ls) h = strip_letters b ls h
  strip_letters b ((x ∷ w, os, k) ∷ ls) h = at (x == b) (strip_letters b ls p.1)
    where
      p : (list_all is_letter (x ∷ w) ≡ true) × (have_letters ls ≡ true)
      p = and_parts (list_all is_letter (x ∷ w)) (have_letters ls) h

      at : (same : Bool) → have_letters (strip b ls) ≡ true → have_letters (if same then (w, os, k) ∷ strip b ls else strip b ls) ≡ true
      at true e = rw ((and_parts (is_letter x) (list_all is_letter w) p.0).1, e) refl
      at false e = e

  step_word : (b : ℕ) (ls : List (List ℕ × List (List ℕ) × K)) → (47 == b) ≡ false → step b (behind ls) ≡ behind (strip b ls)
  step_word b [] e = refl
  step_word b (([], [], k) ∷ ls) e = step_word b ls e
  step_word b (([], o ∷ os, k) ∷ ls) e = rw e (step_word b ls e)
  step_word b ((x ∷ w, os, k) ∷ ls) e = at (x == b) (step_word b ls e)
    where
      at : (same : Bool) → step b (behind ls) ≡ behind (strip b ls) → cond same ((w ++ tail os, k) ∷ step b (behind ls)) (step b (behind ls)) ≡ behind (if same then (w, os, k) ∷ strip b ls else strip b ls)
      at true is = ap (λ (l : RowsOf K). (w ++ tail os, k) ∷ l) is
      at false is = is

  step_slash : (ls : List (List ℕ × List (List ℕ) × K)) → have_letters ls ≡ true → step 47 (behind ls) ≡ chains (ended ls)
  step_slash [] h = refl
  step_slash (([], [], k) ∷ ls) h = step_slash ls h
  step_slash (([], o ∷ os, k) ∷ ls) h = ap (λ (l : RowsOf K). (256 ∷ tail os, k) ∷ l) (step_slash ls h)
  step_slash ((x ∷ w, os, k) ∷ ls) h =
      let p = and_parts (list_all is_letter (x ∷ w)) (have_letters ls) h in
      let l = letter x (and_parts (is_letter x) (list_all is_letter w) p.0).0 in
      rw l.slash (step_slash ls p.1)

  no_param : (ls : List (List ℕ × List (List ℕ) × K)) → have_letters ls ≡ true → step 256 (behind ls) ≡ []
  no_param [] h = refl
  no_param (([], [], k) ∷ ls) h = no_param ls h
  no_param (([], o ∷ os, k) ∷ ls) h = no_param ls h
  no_param ((x ∷ w, os, k) ∷ ls) h =
      let p = and_parts (list_all is_letter (x ∷ w)) (have_letters ls) h in
      let l = letter x (and_parts (is_letter x) (list_all is_letter w) p.0).0 in
      rw l.param (no_param ls p.1)

  no_rest : (ls : List (List ℕ × List (List ℕ) × K)) → have_letters ls ≡ true → step 257 (behind ls) ≡ []
  no_rest [] h = refl
  no_rest (([], [], k) ∷ ls) h = no_rest ls h
  no_rest (([], o ∷ os, k) ∷ ls) h = no_rest ls h
  no_rest ((x ∷ w, os, k) ∷ ls) h =
      let p = and_parts (list_all is_letter (x ∷ w)) (have_letters ls) h in
      let l = letter x (and_parts (is_letter x) (list_all is_letter w) p.0).0 in
      rw l.rest (no_rest ls p.1)

  -- ---- what is found, by the parts of the path

  at_end : (ls : List (List ℕ × List (List ℕ) × K)) → own (behind ls) ≡ line_for ls [] []
  at_end [] = refl
  at_end (([], [], k) ∷ ls) = refl
  at_end (([], o ∷ os, k) ∷ ls) = at_end ls
  at_end ((x ∷ w, os, k) ∷ ls) = at_end ls

  of_ended : (ls : List (List ℕ × List (List ℕ) × K)) (p : List ℕ) (ps : List (List ℕ)) → of_count (ended ls) (p ∷ ps) ≡ line_for ls [] (p ∷ ps)
  of_ended [] p ps = refl
  of_ended (([], [], k) ∷ ls) p ps = of_ended ls p ps
  of_ended (([], o ∷ os, k) ∷ ls) p ps = ap (λ (l : Option K). if as_many os ps then Some k else l) (of_ended ls p ps)
  of_ended ((x ∷ w, os, k) ∷ ls) p ps = of_ended ls p ps

  at_slash : (ls : List (List ℕ × List (List ℕ) × K)) (q : List ℕ) → (if list_all has_bytes (parts q) then of_count (ended ls) (parts q) else None) ≡ chosen ls ([] ∷ parts q)
  at_slash ls q =
      let p = parts_some q in
      rw p.2 (ap (λ (o : Option K). if list_all has_bytes (p.0 ∷ p.1) then o else None) (of_ended ls p.0 p.1))

  of_stripped : (b : ℕ) (ls : List (List ℕ × List (List ℕ) × K)) (w : List ℕ) (ps : List (List ℕ)) → line_for (strip b ls) w ps ≡ line_for ls (b ∷ w) ps
  of_stripped b [] w ps = refl
  of_stripped b (([], os, k) ∷ ls) w ps = of_stripped b ls w ps
  of_stripped b ((x ∷ v, os, k) ∷ ls) w ps = at (x == b) (of_stripped b ls w ps)
    where
      at : (same : Bool) → line_for (strip b ls) w ps ≡ line_for ls (b ∷ w) ps
          → line_for (if same then (v, os, k) ∷ strip b ls else strip b ls) w ps ≡ (if (same && bytes_eq v w) && as_many os ps then Some k else line_for ls (b ∷ w) ps)
      at true e = ap (λ (l : Option K). if bytes_eq v w && as_many os ps then Some k else l) e
      at false e = e

  at_byte : (b : ℕ) (ls : List (List ℕ × List (List ℕ) × K)) (q : List ℕ) → chosen (strip b ls) (parts q) ≡ chosen ls (with_byte b (parts q))
  at_byte b ls q =
      let p = parts_some q in
      rw p.2 (ap (λ (o : Option K). if list_all has_bytes p.1 then o else None) (of_stripped b ls p.0 p.1))

  word_found : (q : List ℕ) (ls : List (List ℕ × List (List ℕ) × K)) → have_letters ls ≡ true → list_all is_ascii q ≡ true → seek 0 (behind ls) q ≡ chosen ls (parts q)
  unfolding seek
  word_found [] ls h a = at_end ls
  word_found (b ∷ q) ls h a = by (λ ls h. word_found q ls h (and_parts (is_ascii b) (list_all is_ascii q) a).1)
    where
      by : ((ls : List (List ℕ × List (List ℕ) × K)) → have_letters ls ≡ true → seek 0 (behind ls) q ≡ chosen ls (parts q)) → seek 0 (behind ls) (b ∷ q) ≡ chosen ls (parts (b ∷ q))
      by more =
          elim (eqb_tells b 47) [
            | inl is ↦
                let P : ℕ → Type 0 = λ x. seek 0 (behind ls) (x ∷ q) ≡ chosen ls (parts (x ∷ q)) in
                subst P (sym is.1) (
                by_byte 47 (behind ls) q (no_param ls h) (no_rest ls h)
                ∙ ap (λ (rs : RowsOf K). seek 0 rs q) (step_slash ls h)
                ∙ chain_found q (ended ls) (and_parts (is_ascii b) (list_all is_ascii q) a).1
                ∙ at_slash ls q
                )
            | inr another ↦
                by_byte b (behind ls) q (no_param ls h) (no_rest ls h)
                ∙ ap (λ (rs : RowsOf K). seek 0 rs q) (step_word b ls (nat_eq_equiv.symm 47 b ∙ another.0))
                ∙ more (strip b ls) (strip_letters b ls h)
                ∙ at_byte b ls q
                ∙ rw another.0 refl
          ]

  -- a path begins with a slash
  abbrev pub line_of : List (List ℕ × List (List ℕ) × K) → List (List ℕ) → Option K
  line_of ls ([] ∷ ps) = chosen ls ps
  line_of ls ps = None

  none_of : (ls : List (List ℕ × List (List ℕ) × K)) (b : ℕ) (q : List ℕ) → line_of ls (with_byte b (parts q)) ≡ None
  none_of ls b q = let p = parts_some q in rw p.2 refl

  pub path_found : (q : List ℕ) (ls : List (List ℕ × List (List ℕ) × K)) → have_letters ls ≡ true → list_all is_ascii q ≡ true → seek 0 (front 47 (behind ls)) q ≡ line_of ls (parts q)
  unfolding seek
  path_found [] ls h a = own_front 47 (behind ls)
  path_found (b ∷ q) ls h a =
      elim (eqb_tells b 47) [
        | inl is ↦
            let P : ℕ → Type 0 = λ x. seek 0 (front 47 (behind ls)) (x ∷ q) ≡ line_of ls (parts (x ∷ q)) in
            subst P (sym is.1) (seek_front 47 47 (behind ls) q refl refl ∙ word_found q ls h (and_parts (is_ascii b) (list_all is_ascii q) a).1)
        | inr another ↦
            seek_front 47 b (behind ls) q refl refl
            ∙ rw (nat_eq_equiv.symm 47 b ∙ another.0, another.0) (sym (none_of ls b q))
      ]
