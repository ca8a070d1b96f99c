-- Worked examples of the definitions. A wrong reading of one fails the check.
use Rattle.std.specs.Prelude.{◌≡◌, ◌≤ℤ◌, ◌-ℤ◌, ℕ, pos, negsuc, List, [], ◌∷◌, Some, None, codes, true, false, refl}
use Rattle.std.proofs.Common.{arith, lit<}
use Rattle.std.proofs.lemmas.Bool.{false≢true}
use Rattle.std.proofs.lemmas.Int.{ints}
use Rattle.std.proofs.lemmas.List.Elements.{All-cons, All-nil}
use Rattle.ht_base.specs.Integers.{greatest_number, least_number}
use Rattle.ht_base.specs.declared.how.How.TheVariants as how
use Rattle.ht_base.specs.declared.value.Value.TheVariants.{Int, Truth}
use Rattle.ht_aggregate.specs.Aggregates.{IsAggregate}
use Rattle.ht_aggregate.specs.Frequencies.{times}
use Rattle.ht_aggregate.specs.Joining.{joined}

-- ---- texts

abbrev pub yes : List ℕ
yes = codes "yes"

abbrev pub no : List ℕ
no = codes "no"

two_joined : joined (codes "; ") (codes "a" ∷ codes "b" ∷ []) ≡ codes "a; b"
two_joined = refl

-- the delimiter stands between two, and behind none
one_joined : joined (codes "; ") (codes "a" ∷ []) ≡ codes "a"
one_joined = refl

none_joined : joined (codes "; ") [] ≡ []
none_joined = refl

counted_twice : times yes (yes ∷ no ∷ yes ∷ []) ≡ 2
counted_twice = refl

-- ---- truth values

a_vote_that_ties : IsAggregate (how.Vote 50) (Truth true ∷ Truth false ∷ []) (Some (Truth false))
a_vote_that_ties = (λ e. absurd (false≢true e), λ h. absurd (let most = h.most in omega arith))

a_vote_of_nobody : IsAggregate (how.Vote 0) [] (Some (Truth false))
a_vote_of_nobody = (λ e. absurd (false≢true e), λ h. absurd (let most = h.most in omega arith))

-- nothing is more than 100 percent
a_vote_of_all : IsAggregate (how.Vote 100) (Truth true ∷ []) (Some (Truth false))
a_vote_of_all = (λ e. absurd (false≢true e), λ h. absurd (let enough = h.enough in omega arith))

all_of_nothing : IsAggregate how.And [] (Some (Truth false))
all_of_nothing = (λ e. absurd (false≢true e), λ h. absurd (h.some refl))

any_of_two : IsAggregate how.Or (Truth false ∷ Truth true ∷ []) (Some (Truth true))
any_of_two = (λ _. (1, lit< tt, refl), λ _. refl)

-- ---- numbers

beyond_the_greatest : IsAggregate how.Sum (Int greatest_number ∷ Int (pos 1) ∷ []) (Some (Int greatest_number))
beyond_the_greatest = refl

beyond_the_least : IsAggregate how.Sum (Int least_number ∷ Int (negsuc 0) ∷ []) (Some (Int least_number))
beyond_the_least = refl

-- the sum is exact up to its end
beyond_and_back : IsAggregate how.Sum (Int greatest_number ∷ Int (pos 1) ∷ Int (negsuc 1) ∷ []) (Some (Int (greatest_number -ℤ pos 1)))
beyond_and_back = refl

sum_of_nothing : IsAggregate how.Sum [] (Some (Int (pos 0)))
sum_of_nothing = refl

-- the average of -3 and 0 is -2
rounded_down : IsAggregate how.Avg (Int (negsuc 2) ∷ Int (pos 0) ∷ []) (Some (Int (negsuc 1)))
rounded_down = record { within = omega (arith, ints); next = omega (arith, ints) }

average_of_nothing : IsAggregate how.Avg [] None
average_of_nothing = refl

least_of_two : IsAggregate how.Min (Int (pos 2) ∷ Int (negsuc 2) ∷ []) (Some (Int (negsuc 2)))
least_of_two = record {
  occurs = (1, lit< tt, refl);
  bound = All-cons (λ n. negsuc 2 ≤ℤ n) (pos 2) (negsuc 2 ∷ []) (omega (arith, ints)) (All-cons (λ n. negsuc 2 ≤ℤ n) (negsuc 2) [] (omega (arith, ints)) (All-nil (λ n. negsuc 2 ≤ℤ n)));
}

least_of_nothing : IsAggregate how.Min [] None
least_of_nothing = refl
