-- Sets of persons made of two others.
use Rattle.std.specs.Prelude.{ℕ, min, ◌==◌, Bool, false, ◌&&◌, ◌||◌, not, List, [], ◌∷◌, Option, Some, None, if◌then◌else◌}
use Rattle.ht_people.specs.declared.sets.Keep.{Keep}
use Rattle.ht_people.specs.declared.sets.Keep.TheVariants.{Either, Both, FirstAlone}

-- whether a person goes in, who is in the first set or in the second
abbrev pub keeps : Keep → Bool → Bool → Bool
keeps Either a b = a || b
keeps Both a b = a && b
keeps FirstAlone a b = a && not b

-- the lower of the first persons of two lists
abbrev pub least_head : List ℕ → List ℕ → Option ℕ
least_head [] [] = None
least_head [] (q ∷ qs) = Some q
least_head (p ∷ ps) [] = Some p
least_head (p ∷ ps) (q ∷ qs) = Some (min p q)

-- whether the list begins with this person
abbrev pub begins_with : ℕ → List ℕ → Bool
begins_with person [] = false
begins_with person (p ∷ ps) = p == person

-- the list behind this person, if it begins with it
abbrev pub without_head : ℕ → List ℕ → List ℕ
without_head person [] = []
without_head person (p ∷ ps) = if p == person then ps else p ∷ ps
