-- What truth values give together.
use Rattle.std.specs.Prelude.{◌≢◌, ℕ, ◌*◌, ◌<◌, Bool, true, not, List, [], length, count_by, All, Contains, IsTrue}

-- each of them is true, and there is one
pub record AreAllTrue (truths : List Bool) : Type 0 where
  pub some : truths ≢ []
  pub all : All IsTrue truths

abbrev pub IsAnyTrue : List Bool → Type 0
IsAnyTrue truths = Contains truths true

-- how many of them are true
abbrev pub trues : List Bool → ℕ
trues truths = count_by (λ t. t) truths

abbrev pub falses : List Bool → ℕ
falses truths = count_by not truths

-- more of them are true than false, and more than this percent of them are true
pub record AreForTrue (percent : ℕ) (truths : List Bool) : Type 0 where
  pub most : falses truths < trues truths
  pub enough : percent * length truths < 100 * trues truths
