-- An assignment that looks at no part and at no expression finds the same persons whatever is set.
use Rattle.std.proofs.Common.{◌≡◌, ℕ, ◌==◌, true, not, ◌++◌, refl, ap, sym, ◌∙◌}
use Rattle.std.specs.List.{list_all}
use Rattle.std.proofs.lemmas.Bool.{and_parts}
use Rattle.std.proofs.lemmas.List.Elements.{filter_agree}
use Rattle.std.proofs.lemmas.List.Folds.{list_all-append}
use Rattle.ht_expr.specs.Assignments.{Assignment, is_looking, is_plain, parts, nobody, everybody, initiator, part, user, group, union, intersect, except, when}
use Rattle.ht_expr.specs.Trees.{integer, text, truth, priority, is_set, count, count_text, count_true, brackets, negative, opposite, binary, choice}
use Rattle.ht_people.specs.Directory.{DirectoryOf}
use Rattle.ht_people.specs.Membership as people
use Rattle.ht_finding.specs.Assigning.{Sight, is_found, resolved}

-- both parts are plain
both_plain : (a b : Assignment) → list_all (λ p. not (is_looking p)) (parts a ++ parts b) ≡ true → (is_plain a ≡ true) × (is_plain b ≡ true)
both_plain a b plain = and_parts (is_plain a) (is_plain b) (sym (list_all-append (λ p. not (is_looking p)) (parts a) (parts b)) ∙ plain)

module _ (d : DirectoryOf) (s z : Sight) (same : (s.env).initiator ≡ (z.env).initiator) where
  found_same : (a : Assignment) (p : ℕ) → is_plain a ≡ true → is_found d s a p ≡ is_found d z a p
  found_same nobody p plain = refl
  found_same everybody p plain = refl
  found_same initiator p plain = ap (λ (q : ℕ). p == q) same
  found_same (user name) p plain = refl
  found_same (group name) p plain = refl
  found_same (union a b) p plain = let both = both_plain a b plain in rw (found_same a p both.0, found_same b p both.1) refl
  found_same (intersect a b) p plain = let both = both_plain a b plain in rw (found_same a p both.0, found_same b p both.1) refl
  found_same (except a b) p plain = let both = both_plain a b plain in rw (found_same a p both.0, found_same b p both.1) refl
  found_same (part side name) p plain = absurd cc
  found_same (when test a b) p plain = absurd cc
  found_same (integer n) p plain = refl
  found_same (text x) p plain = refl
  found_same (truth b) p plain = refl
  found_same priority p plain = refl
  found_same (is_set side name) p plain = refl
  found_same (count c) p plain = refl
  found_same (count_text x y) p plain = refl
  found_same (count_true x) p plain = refl
  found_same (brackets a) p plain = refl
  found_same (negative a) p plain = refl
  found_same (opposite a) p plain = refl
  found_same (binary o a b) p plain = refl
  found_same (choice test a b) p plain = refl

  pub resolved_same : (a : Assignment) → is_plain a ≡ true → resolved d s a ≡ resolved d z a
  resolved_same a plain = filter_agree (is_found d s a) (is_found d z a) (λ p. found_same a p plain) (people.everybody d)
