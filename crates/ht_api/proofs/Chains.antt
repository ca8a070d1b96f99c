-- Routes that are chains of parameters with slashes between them: the first with as many parameters as the
-- path has parts is found, where no part is empty.
use Rattle.std.proofs.Common.{inl, inr, ◌⊎◌, ◌≡◌, ◌∙◌, sym, ap, refl, ℕ, zero, suc, ◌+◌, ◌-◌, ◌<◌, ◌≤◌, ◌==◌, ◌&&◌, Bool, true, false, cond, List, [], ◌∷◌, ◌++◌, length, drop, Option, Some, None, if◌then◌else◌, nat_eq, length-append, arith}
use Rattle.std.specs.Char.{is_ascii}
use Rattle.std.specs.List.{list_all, ends_with}
use Rattle.std.proofs.Math.Seq.{drop-append_seam}
use Rattle.std.proofs.lemmas.Bool.{and_parts, lt-ltb}
use Rattle.std.proofs.lemmas.List.Folds.{list_all-append}
use Rattle.std.proofs.lemmas.Bool.Decides.{Decides-eqb}
use Rattle.std.proofs.lemmas.Slice.Eq.{ends_is}
use Rattle.matchit.specs.Rows.{RowsOf}
use Rattle.matchit.specs.Seek.{better, cuts, has_slash, longest_from, longest_suffix, own, param_step, seek, segment, step, with_suffix}
use Rattle.ht_api.specs.Routes.{has_bytes, parts}
use Rattle.ht_api.proofs.Alike.{and_false, by_byte, IsCutAt, IsWhole, low_byte, no_byte, parts_some, seek_all, seek_none, seek_skip, slash_or_none, whole_ends}

-- two lists of parts with as many in each
abbrev pub as_many : List (List ℕ) → List (List ℕ) → Bool
as_many [] [] = true
as_many [] (p ∷ ps) = false
as_many (o ∷ os) [] = false
as_many (o ∷ os) (p ∷ ps) = as_many os ps

-- the parameters that stand for these parts, each behind a slash
abbrev pub tail : List (List ℕ) → List ℕ
tail [] = []
tail (o ∷ os) = 47 ∷ 256 ∷ tail os

less_one : (n : ℕ) → suc n - 1 ≡ n
less_one n = omega arith

better_is : (seg : List ℕ) (r : Bool) → cuts seg (47 ∷ []) ≡ r → better seg [] (47 ∷ []) ≡ cond r (47 ∷ []) []
better_is seg true e = ap (λ (t : Bool). cond t (47 ∷ []) []) e
better_is seg false e = ap (λ (t : Bool). cond t (47 ∷ []) []) e

module _ {K : Type 0} where
  abbrev pub chains : List (List (List ℕ) × K) → RowsOf K
  chains [] = []
  chains ((os, k) ∷ cs) = (256 ∷ tail os, k) ∷ chains cs

  -- what stands behind the first parameter
  abbrev tails : List (List (List ℕ) × K) → RowsOf K
  tails [] = []
  tails ((os, k) ∷ cs) = (tail os, k) ∷ tails cs

  -- those with a parameter more, without it
  abbrev less : List (List (List ℕ) × K) → List (List (List ℕ) × K)
  less [] = []
  less (([], k) ∷ cs) = less cs
  less ((o ∷ os, k) ∷ cs) = (os, k) ∷ less cs

  abbrev none_more : List (List (List ℕ) × K) → Option K
  none_more [] = None
  none_more (([], k) ∷ cs) = Some k
  none_more ((o ∷ os, k) ∷ cs) = none_more cs

  -- the suffix that they leave to a parameter
  abbrev suffix : List (List (List ℕ) × K) → List ℕ
  suffix [] = []
  suffix (([], k) ∷ cs) = suffix cs
  suffix ((o ∷ os, k) ∷ cs) = 47 ∷ []

  suffix_tells : (cs : List (List (List ℕ) × K)) → ((suffix cs ≡ []) × (less cs ≡ [])) ⊎ (suffix cs ≡ 47 ∷ [])
  suffix_tells [] = inl (refl, refl)
  suffix_tells (([], k) ∷ cs) = suffix_tells cs
  suffix_tells ((o ∷ os, k) ∷ cs) = inr refl

  own_chains : (cs : List (List (List ℕ) × K)) → own (chains cs) ≡ None
  own_chains [] = refl
  own_chains ((os, k) ∷ cs) = own_chains cs

  own_tails : (cs : List (List (List ℕ) × K)) → own (tails cs) ≡ none_more cs
  own_tails [] = refl
  own_tails (([], k) ∷ cs) = refl
  own_tails ((o ∷ os, k) ∷ cs) = own_tails cs

  on_param : (cs : List (List (List ℕ) × K)) → step 256 (chains cs) ≡ tails cs
  on_param [] = refl
  on_param ((os, k) ∷ cs) = ap (λ (l : RowsOf K). (tail os, k) ∷ l) (on_param cs)

  gone : (b : ℕ) (cs : List (List (List ℕ) × K)) → (256 == b) ≡ false → step b (chains cs) ≡ []
  gone b [] e = refl
  gone b ((os, k) ∷ cs) e = rw e (gone b cs e)

  longest_one : (seg : List ℕ) (cs : List (List (List ℕ) × K)) → longest_from seg (47 ∷ []) (tails cs) ≡ 47 ∷ []
  longest_one seg [] = refl
  longest_one seg (([], k) ∷ cs) = longest_one seg cs
  longest_one seg ((o ∷ os, k) ∷ cs) = longest_one seg cs

  longest : (seg : List ℕ) (cs : List (List (List ℕ) × K)) (r : Bool) → cuts seg (47 ∷ []) ≡ r → longest_suffix seg (tails cs) ≡ cond r (suffix cs) []
  longest seg [] true e = refl
  longest seg [] false e = refl
  longest seg (([], k) ∷ cs) true e = longest seg cs true e
  longest seg (([], k) ∷ cs) false e = longest seg cs false e
  longest seg ((o ∷ os, k) ∷ cs) true e = ap (λ (best : List ℕ). longest_from seg best (tails cs)) (better_is seg true e) ∙ longest_one seg cs
  longest seg ((o ∷ os, k) ∷ cs) false e = ap (λ (best : List ℕ). longest_from seg best (tails cs)) (better_is seg false e) ∙ longest seg cs false e

  -- those with the suffix
  step_with : (cs : List (List (List ℕ) × K)) → step 47 (with_suffix (47 ∷ []) (tails cs)) ≡ chains (less cs)
  step_with [] = refl
  step_with (([], k) ∷ cs) = step_with cs
  step_with ((o ∷ os, k) ∷ cs) = ap (λ (l : RowsOf K). (256 ∷ tail os, k) ∷ l) (step_with cs)

  none_with : (b : ℕ) (cs : List (List (List ℕ) × K)) → (47 == b) ≡ false → step b (with_suffix (47 ∷ []) (tails cs)) ≡ []
  none_with b [] e = refl
  none_with b (([], k) ∷ cs) e = none_with b cs e
  none_with b ((o ∷ os, k) ∷ cs) e = rw e (none_with b cs e)

  -- what a parameter takes
  takes_rest : (cs : List (List (List ℕ) × K)) (p : List ℕ) → longest_suffix (segment p) (tails cs) ≡ [] → has_slash p ≡ false → param_step (tails cs) p ≡ (length p, tails cs)
  unfolding param_step
  takes_rest cs p e h = rw (e, h) refl

  takes_none : (cs : List (List (List ℕ) × K)) (p : List ℕ) → longest_suffix (segment p) (tails cs) ≡ [] → has_slash p ≡ true → param_step (tails cs) p ≡ (0, [])
  unfolding param_step
  takes_none cs p e h = rw (e, h) refl

  takes_part : (cs : List (List (List ℕ) × K)) (p : List ℕ) → longest_suffix (segment p) (tails cs) ≡ 47 ∷ [] → param_step (tails cs) p ≡ (length (segment p) - 1, with_suffix (47 ∷ []) (tails cs))
  unfolding param_step
  takes_part cs p e = rw e refl

  -- by the parts of the path
  abbrev taken : List (List (List ℕ) × K) → List (List ℕ) → Option K
  taken cs [] = None
  taken cs ([] ∷ ps) = None
  taken cs ((x ∷ p) ∷ []) = none_more cs
  taken cs ((x ∷ p) ∷ (q ∷ ps)) = taken (less cs) (q ∷ ps)

  taken_more : (cs : List (List (List ℕ) × K)) (x : ℕ) (h : List ℕ) (t : List ℕ) → taken cs ((x ∷ h) ∷ parts t) ≡ taken (less cs) (parts t)
  taken_more cs x h t = let p = parts_some t in rw p.2 refl

  at_param : (b : ℕ) (q : List ℕ) (cs : List (List (List ℕ) × K)) → is_ascii b ≡ true
      → seek 0 (chains cs) (b ∷ q) ≡ seek ((param_step (tails cs) (b ∷ q)).0 - 1) (param_step (tails cs) (b ∷ q)).1 q
  at_param b q cs low =
      no_byte (chains cs) b q (gone b cs (low_byte b low)) (gone 257 cs refl)
      ∙ ap (λ (rs : RowsOf K). seek ((param_step rs (b ∷ q)).0 - 1) (param_step rs (b ∷ q)).1 q) (on_param cs)

  whole : (b : ℕ) (q : List ℕ) (cs : List (List (List ℕ) × K)) → is_ascii b ≡ true → IsWhole (b ∷ q) → seek 0 (chains cs) (b ∷ q) ≡ none_more cs
  whole b q cs low w =
      let cuts_none : cuts (segment (b ∷ q)) (47 ∷ []) ≡ false = rw w.1 (and_false _ _ (whole_ends (b ∷ q) _ refl w.0)) in
      let took = takes_rest cs (b ∷ q) (longest _ cs false cuts_none) w.0 in
      at_param b q cs low ∙ rw (took, less_one (length q)) (seek_all (tails cs) q ∙ own_tails cs)

  empty : (b : ℕ) (q t : List ℕ) (cs : List (List (List ℕ) × K)) → is_ascii b ≡ true → IsCutAt (b ∷ q) [] t → seek 0 (chains cs) (b ∷ q) ≡ None
  empty b q t cs low w =
      let cuts_none : cuts (segment (b ∷ q)) (47 ∷ []) ≡ false = rw w.1 refl in
      at_param b q cs low ∙ rw (takes_none cs (b ∷ q) (longest _ cs false cuts_none) w.2) (seek_none _ q)

  past : (h t q : List ℕ) (cs : List (List (List ℕ) × K)) → q ≡ h ++ 47 ∷ t → seek (length h) (with_suffix (47 ∷ []) (tails cs)) q ≡ seek 0 (chains (less cs)) t
  past h t q cs is =
      let rs = with_suffix (47 ∷ []) (tails cs) in
      let at : drop (length h) q ≡ 47 ∷ t = ap (drop (length h)) is ∙ drop-append_seam h (47 ∷ t) in
      seek_skip (length h) rs q ∙ rw at (by_byte 47 rs t (none_with 256 cs refl) (none_with 257 cs refl) ∙ ap (λ (l : RowsOf K). seek 0 l t) (step_with cs))

  cut_here : (b : ℕ) (q : List ℕ) (c : ℕ) (h t : List ℕ) (cs : List (List (List ℕ) × K)) → is_ascii b ≡ true → IsCutAt (b ∷ q) (c ∷ h) t
      → seek 0 (chains cs) (b ∷ q) ≡ seek 0 (chains (less cs)) t
  cut_here b q c h t cs low w =
      let seg = (c ∷ h) ++ 47 ∷ [] in
      let long : length seg ≡ length h + 2 = omega (arith, length-append h (47 ∷ [])) in
      let two : 1 < length seg = omega arith in
      let ends : ends_with nat_eq seg (47 ∷ []) ≡ true = (ends_is Decides-eqb seg (47 ∷ []) _ refl).1 (c ∷ h) refl in
      let cut_there : cuts (segment (b ∷ q)) (47 ∷ []) ≡ true = rw w.1 (rw (lt-ltb 1 (length seg) two) ends) in
      let rest : q ≡ h ++ 47 ∷ t = let same = w.0 in cc in
      let skip : (length (segment (b ∷ q)) - 1) - 1 ≡ length h = rw w.1 (omega arith) in
      let left : longest_suffix (segment (b ∷ q)) (tails cs) ≡ suffix cs = longest _ cs true cut_there in
      elim (suffix_tells cs) [
        | inl none ↦ at_param b q cs low ∙ rw (takes_none cs (b ∷ q) (left ∙ none.0) w.2, none.1) (seek_none _ q ∙ sym (seek_none 0 t))
        | inr one ↦ at_param b q cs low ∙ rw (takes_part cs (b ∷ q) (left ∙ one), skip) (past h t q cs rest)
      ]

  sought : (n : ℕ) (q : List ℕ) (cs : List (List (List ℕ) × K)) → length q ≤ n → list_all is_ascii q ≡ true → seek 0 (chains cs) q ≡ taken cs (parts q)
  unfolding seek
  sought n [] cs l a = own_chains cs
  sought zero (b ∷ q) cs l a = absurd (omega arith)
  sought (suc n) (b ∷ q) cs l a = by (λ t cs l a. sought n t cs l a) (slash_or_none (b ∷ q))
    where
      low : is_ascii b ≡ true
      low = (and_parts (is_ascii b) (list_all is_ascii q) a).0

      by : ((t : List ℕ) (cs : List (List (List ℕ) × K)) → length t ≤ n → list_all is_ascii t ≡ true → seek 0 (chains cs) t ≡ taken cs (parts t))
          → IsWhole (b ∷ q) ⊎ ((h : List ℕ) × (t : List ℕ) × IsCutAt (b ∷ q) h t) → seek 0 (chains cs) (b ∷ q) ≡ taken cs (parts (b ∷ q))
      by more (inl w) = whole b q cs low w ∙ rw w.2 refl
      by more (inr ([], t, w)) = empty b q t cs low w ∙ rw w.3 refl
      by more (inr (c ∷ h, t, w)) =
          let both : (list_all is_ascii (c ∷ h) && list_all is_ascii (47 ∷ t)) ≡ true = sym (list_all-append is_ascii (c ∷ h) (47 ∷ t)) ∙ ap (list_all is_ascii) (sym w.0) ∙ a in
          let rest : list_all is_ascii t ≡ true = (and_parts (list_all is_ascii (c ∷ h)) (list_all is_ascii (47 ∷ t)) both).1 in
          let short : length t ≤ n = omega (arith, l, ap (λ (p : List ℕ). length p) w.0, length-append (c ∷ h) (47 ∷ t)) in
          cut_here b q c h t cs low w ∙ more t (less cs) short rest ∙ sym (taken_more cs c h t) ∙ rw w.3 refl

  -- ---- by their number

  abbrev pub of_count : List (List (List ℕ) × K) → List (List ℕ) → Option K
  of_count [] ps = None
  of_count ((os, k) ∷ cs) ps = if as_many ([] ∷ os) ps then Some k else of_count cs ps

  count_none : (cs : List (List (List ℕ) × K)) → of_count cs [] ≡ None
  count_none [] = refl
  count_none ((os, k) ∷ cs) = count_none cs

  count_one : (cs : List (List (List ℕ) × K)) (p : List ℕ) → none_more cs ≡ of_count cs (p ∷ [])
  count_one [] p = refl
  count_one (([], k) ∷ cs) p = refl
  count_one ((o ∷ os, k) ∷ cs) p = count_one cs p

  count_more : (cs : List (List (List ℕ) × K)) (p q : List ℕ) (ps : List (List ℕ)) → of_count (less cs) (q ∷ ps) ≡ of_count cs (p ∷ q ∷ ps)
  count_more [] p q ps = refl
  count_more (([], k) ∷ cs) p q ps = count_more cs p q ps
  count_more ((o ∷ os, k) ∷ cs) p q ps = ap (λ (l : Option K). if as_many ([] ∷ os) (q ∷ ps) then Some k else l) (count_more cs p q ps)

  taken_is : (cs : List (List (List ℕ) × K)) (ps : List (List ℕ)) → taken cs ps ≡ (if list_all has_bytes ps then of_count cs ps else None)
  taken_is cs [] = sym (count_none cs)
  taken_is cs ([] ∷ ps) = refl
  taken_is cs ((x ∷ p) ∷ []) = count_one cs (x ∷ p)
  taken_is cs ((x ∷ p) ∷ (q ∷ ps)) =
      taken_is (less cs) (q ∷ ps) ∙ ap (λ (o : Option K). if list_all has_bytes (q ∷ ps) then o else None) (count_more cs (x ∷ p) q ps)

  pub chain_found : (q : List ℕ) (cs : List (List (List ℕ) × K)) → list_all is_ascii q ≡ true
      → seek 0 (chains cs) q ≡ (if list_all has_bytes (parts q) then of_count cs (parts q) else None)
  chain_found q cs a = sought (length q) q cs (omega arith) a ∙ taken_is cs (parts q)
