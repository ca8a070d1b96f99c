-- The laws of what is to be done.
use Rattle.std.proofs.Common.{◌≡◌, List, [], ◌∷◌, ◌++◌, refl, sym, subst, append_assoc, ap, ◌∙◌}
use Rattle.ht_compose.specs.Agenda.{Done, Ends, FirstEnds, IsDetermined, OneBehindTheOther, OneEnd}
use Rattle.ht_compose.specs.Agenda.Ends.{end, on}

module _ {T I : Type 0} (Does : T → I → Done T I → Type 0) where
  behind : (u v w : T) (is js : List I) → Ends Does u is v → Ends Does v js w → Ends Does u (is ++ js) w
  behind u v w [] js end b = b
  behind u v w (i ∷ is) js (on {d = d} does a) b =
      on does (subst (λ (l : List I). Ends Does d.tables l w) (append_assoc d.puts is js) (behind d.tables v w (d.puts ++ is) js a b))

  unique : IsDetermined Does → (u v w : T) (is : List I) → Ends Does u is v → Ends Does u is w → v ≡ w
  unique one u v w [] end end = refl
  unique one u v w (i ∷ is) (on {d = d} does a) (on {d = e} doing b) =
      let same = one u i d e does doing in
      unique one d.tables v w (d.puts ++ is) a (subst (λ (k : Done T I). Ends Does k.tables (k.puts ++ is) w) (sym same) b)

  first_in : (u w : T) (l is js : List I) → Ends Does u l w → l ≡ is ++ js → (v : T) × Ends Does u is v × Ends Does v js w
  first_in u w [] [] js end e = (u, end, subst (λ (k : List I). Ends Does u k u) e end)
  first_in u w [] (i ∷ is) js end e = absurd cc
  first_in u w (k ∷ l) [] js (on does a) e = (u, end, subst (λ (m : List I). Ends Does u m w) e (on does a))
  first_in u w (k ∷ l) (i ∷ is) js (on {d = d} does a) e =
      let head : k ≡ i = cc in
      let tail : l ≡ is ++ js = cc in
      let r = first_in d.tables w (d.puts ++ l) (d.puts ++ is) js a (ap (λ (m : List I). d.puts ++ m) tail ∙ sym (append_assoc d.puts is js)) in
      (r.0, subst (λ (j : I). Ends Does u (j ∷ is) r.0) head (on does r.1), r.2)

  pub one_end : IsDetermined Does → OneEnd Does
  one_end one u v w is a b = unique one u v w is a b

  pub one_behind_the_other : OneBehindTheOther Does
  one_behind_the_other u v w is js a b = behind u v w is js a b

  pub first_ends : FirstEnds Does
  first_ends u w is js a = first_in u w (is ++ js) is js a refl

  -- first what an item puts, and then the rest
  pub first_and_rest : (u v w : T) (i : I) (is : List I) (d : Done T I) → Does u i d → Ends Does d.tables d.puts v → Ends Does v is w → Ends Does u (i ∷ is) w
  first_and_rest u v w i is d does a b = on does (behind d.tables v w d.puts is a b)
