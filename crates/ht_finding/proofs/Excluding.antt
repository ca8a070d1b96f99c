-- Whom an assignment finds, without the excluded owners.
use Rattle.std.proofs.Common.{◌≡◌, ◌&&◌, ◌∙◌, ℕ, Bool, true, false, List, [], Result, Ok, Err, IfOk, length, not, ap, refl, subst, sym}
use Rattle.std.proofs.lemmas.Bool.{and_parts}
use Rattle.std.specs.Prelude.{nat_lt}
use Rattle.ht_base.specs.Persons.{Ascends, has}
use Rattle.ht_expr.specs.Assignments.{Assignment}
use Rattle.ht_people.specs.Directory.{DirectoryOf}
use Rattle.ht_finding.specs.Assigning.{Sight, is_found, potential_owners, resolved}
use Rattle.ht_finding.proofs.Selecting.{has_selected, selected, selected_ascends}

turn : (a b c : Bool) → ((a && b) && c) ≡ (a && (b && c))
turn true b c = refl
turn false b c = refl

module _ (d : DirectoryOf) (s : Sight) (a : Assignment) where
  pub owners_are : (excluded found ps : List ℕ) → found ≡ resolved d s a → Ascends ps → ((p : ℕ) → has p ps ≡ (has p found && not (has p excluded))) → ps ≡ potential_owners d s a excluded
  owners_are excluded found ps is up each = selected (λ p. is_found d s a p && not (has p excluded)) (length d.persons) ps up (λ p.
      each p
      ∙ ap (λ (l : List ℕ). has p l && not (has p excluded)) is
      ∙ ap (λ (b : Bool). b && not (has p excluded)) (has_selected (is_found d s a) (length d.persons) p)
      ∙ turn (nat_lt p (length d.persons)) (is_found d s a p) (not (has p excluded)))

  -- where nobody is excluded, all are left
  pub all_left : (found : List ℕ) → found ≡ resolved d s a → found ≡ potential_owners d s a []
  all_left found is = owners_are [] found found is (subst Ascends (sym is) (selected_ascends (is_found d s a) (length d.persons))) (λ p. stays (has p found))
    where
      stays : (b : Bool) → b ≡ (b && true)
      stays true = refl
      stays false = refl

  pub none_excluded : (excluded : List ℕ) (p : ℕ) → has p (potential_owners d s a excluded) ≡ true → has p excluded ≡ false
  none_excluded excluded p there =
      let test = (and_parts (nat_lt p (length d.persons)) (is_found d s a p && not (has p excluded)) (sym (has_selected (λ q. is_found d s a q && not (has q excluded)) (length d.persons) p) ∙ there)).1 in
      not_true (has p excluded) (and_parts (is_found d s a p) (not (has p excluded)) test).1
    where
      not_true : (b : Bool) → not b ≡ true → b ≡ false
      not_true true e = cc
      not_true false e = refl

-- those who are left of the persons found
pub except_is : {E : Type 0} (excluded found : List ℕ) (r : Result (List ℕ) E) → IfOk r (λ ps. (p : ℕ) → has p ps ≡ (has p found && not (has p excluded))) → IfOk r Ascends → IfOk r (λ ps. (d : DirectoryOf) (s : Sight) (a : Assignment) → found ≡ resolved d s a → ps ≡ potential_owners d s a excluded)
except_is excluded found (Ok ps) each up = λ d s a is. owners_are d s a excluded found ps is up each
except_is excluded found (Err e) each up = tt
