-- Requests one behind another, and the reads that were made for them.
use Rattle.std.proofs.Common.{◌≡◌, inl, inr, false, List, [], ◌∷◌, ◌++◌, ℕ, refl, sym, ap, subst, ◌∙◌, append_assoc, Option, Some, None}
use Rattle.ht_outside.specs.Tells.{Flow, Takes}
use Rattle.ht_wire.specs.declared.request.Request.{Request}
use Rattle.ht_wire.specs.Reading.{LastReadWhere}
use Rattle.ht_wire.specs.Requests.{AreRequests}
use Rattle.ht_wire.proofs.PublicLaws.{one_request, request_on}
use Rattle.ht_serve.specs.Serving.{AreNotWhole, AreUnfinished}

-- none of these requests is the last of its connection
abbrev pub NoLast : List Request → Type 0
NoLast [] = Unit {0}
NoLast (r ∷ rs) = (r.last ≡ false) × NoLast rs

-- ---- requests one behind another

pub chain : (rs : List Request) (s more rest : List ℕ) (qs : List Request) (end : List ℕ) → NoLast rs → AreRequests s rs rest → AreRequests (rest ++ more) qs end → AreRequests (s ++ more) (rs ++ qs) end
chain [] s more rest qs end going a b = subst (λ (l : List ℕ). AreRequests (l ++ more) qs end) (sym a) b
chain (r ∷ rs) s more rest qs end going a b =
    (a.0 ++ more, request_on s more r a.0 a.1, (λ last. absurd (let no = going.0 in cc)), chain rs a.0 more rest qs end going.1 a.3 b)

-- the requests stay where the stream goes on
pub still : (rs : List Request) (s more rest : List ℕ) → AreRequests s rs rest → AreRequests (s ++ more) rs (rest ++ more)
still [] s more rest a = ap (λ l. l ++ more) a
still (r ∷ rs) s more rest a = (a.0 ++ more, request_on s more r a.0 a.1, a.2, still rs a.0 more rest a.3)

-- the first of some requests
front_whole : (rs qs : List Request) (s rest : List ℕ) → AreRequests s (rs ++ qs) rest → (mid : List ℕ) × AreRequests s rs mid
front_whole [] qs s rest a = (s, refl)
front_whole (r ∷ rs) qs s rest a = let front = front_whole rs qs a.0 rest a.3 in (front.0, (a.0, a.1, (λ last. none_first rs qs (a.2 last)), front.1))
  where
    none_first : (rs qs : List Request) → rs ++ qs ≡ [] → rs ≡ []
    none_first [] qs e = refl
    none_first (r ∷ rs) qs e = absurd (cc)

-- and those behind them
behind : (rs qs : List Request) (s mid rest : List ℕ) → AreRequests s rs mid → AreRequests s (rs ++ qs) rest → AreRequests mid qs rest
behind [] qs s mid rest a b = subst (λ (l : List ℕ). AreRequests l qs rest) a b
behind (r ∷ rs) qs s mid rest a b =
    let same = one_request s r r a.0 b.0 a.1 b.1 in
    behind rs qs a.0 mid rest a.3 (subst (λ (l : List ℕ). AreRequests l (rs ++ qs) rest) (sym same.1) b.3)

-- ---- the last read

module _ (p q taken : List ℕ) (rs qs : List Request) where
  pub needed_on : (f g h : Option Flow) → Takes f g taken → AreRequests (p ++ taken) rs q → LastReadWhere (AreNotWhole rs) f g p → LastReadWhere (AreNotWhole qs) g h q → LastReadWhere (AreNotWhole (rs ++ qs)) f h p
  needed_on None None None takes stand a b = tt
  needed_on None None (Some h) takes stand a b = absurd b
  needed_on None (Some g) h takes stand a b = absurd takes
  needed_on (Some f) None h takes stand a b = absurd takes
  needed_on (Some f) (Some g) None takes stand a b = absurd b
  needed_on (Some f) (Some g) (Some h) takes stand (inl same) (inl kept) = inl (kept ∙ same)
  needed_on (Some f) (Some g) (Some h) takes stand (inr read) (inl kept) =
      inr (read.0, ap (λ (x : Flow). x.before) kept ∙ read.1, (λ rest are. let front = front_whole rs qs (p ++ read.0) rest are in read.2 front.0 front.1))
  needed_on (Some f) (Some g) (Some h) takes stand a (inr read) =
      inr (
        taken ++ read.0,
        read.1 ∙ ap (λ (l : List ℕ). l ++ read.0) takes.taken ∙ append_assoc f.taken taken read.0,
        (λ rest are.
            read.2 rest (behind rs qs ((p ++ taken) ++ read.0) (q ++ read.0) rest (still rs (p ++ taken) read.0 q stand) (subst (λ (l : List ℕ). AreRequests l (rs ++ qs) rest) (sym (append_assoc p taken read.0)) are))),
      )

-- the same, of the reads that were made for what stands behind the others too
module _ (p q taken : List ℕ) (rs qs : List Request) (going : NoLast rs) where
  unfinished_on : (more : List ℕ) → AreRequests (p ++ taken) rs q → AreUnfinished qs (q ++ more) → AreUnfinished (rs ++ qs) (p ++ (taken ++ more))
  unfinished_on more stand (inl not_whole) = inl (λ rest are. not_whole rest (behind rs qs ((p ++ taken) ++ more) (q ++ more) rest (still rs (p ++ taken) more q stand) (subst (λ (l : List ℕ). AreRequests l (rs ++ qs) rest) (sym (append_assoc p taken more)) are)))
  unfinished_on more stand (inr whole) = inr (
    whole.0,
    subst (λ (l : List ℕ). AreRequests l (rs ++ qs) whole.0) (append_assoc p taken more) (chain rs (p ++ taken) more q qs whole.0 going stand whole.1),
    whole.2,
  )

  pub one_more_on : (f g h : Option Flow) → Takes f g taken → AreRequests (p ++ taken) rs q → LastReadWhere (AreNotWhole rs) f g p → LastReadWhere (AreUnfinished qs) g h q → LastReadWhere (AreUnfinished (rs ++ qs)) f h p
  one_more_on None None None takes stand a b = tt
  one_more_on None None (Some h) takes stand a b = absurd b
  one_more_on None (Some g) h takes stand a b = absurd takes
  one_more_on (Some f) None h takes stand a b = absurd takes
  one_more_on (Some f) (Some g) None takes stand a b = absurd b
  one_more_on (Some f) (Some g) (Some h) takes stand (inl same) (inl kept) = inl (kept ∙ same)
  one_more_on (Some f) (Some g) (Some h) takes stand (inr read) (inl kept) =
      inr (read.0, ap (λ (x : Flow). x.before) kept ∙ read.1, inl (λ rest are. let front = front_whole rs qs (p ++ read.0) rest are in read.2 front.0 front.1))
  one_more_on (Some f) (Some g) (Some h) takes stand a (inr read) =
      inr (taken ++ read.0, read.1 ∙ ap (λ (l : List ℕ). l ++ read.0) takes.taken ∙ append_assoc f.taken taken read.0, unfinished_on read.0 stand read.2)
