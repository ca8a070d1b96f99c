-- What is still to be done: the first item is taken off, and what it puts goes in front.
use Rattle.std.specs.Prelude.{◌≡◌, List, [], ◌∷◌, ◌++◌}

-- what an item leaves of the tables, and which items it puts
pub record Done (T I : Type 0) : Type 0 where
  pub tables : T
  pub puts : List I

-- from these tables a list of items comes to its end at those
pub data Ends {T I : Type 0} (Does : T → I → Done T I → Type 0) : T → List I → T → Type 0 where
  end : {u : T} → Ends Does u [] u
  on : {u v : T} {i : I} {is : List I} {d : Done T I} → Does u i d → Ends Does d.tables (d.puts ++ is) v → Ends Does u (i ∷ is) v

-- ---- laws

-- what an item does is determined
abbrev pub IsDetermined : {T I : Type 0} → (T → I → Done T I → Type 0) → Type 0
IsDetermined {T} {I} Does = (u : T) (i : I) (d e : Done T I) → Does u i d → Does u i e → d ≡ e

-- then a list has one end
abbrev pub OneEnd : {T I : Type 0} → (T → I → Done T I → Type 0) → Type 0
OneEnd {T} {I} Does = (u v w : T) (is : List I) → Ends Does u is v → Ends Does u is w → v ≡ w

-- the end of two lists, one behind the other, is the end of the second from the end of the first
abbrev pub OneBehindTheOther : {T I : Type 0} → (T → I → Done T I → Type 0) → Type 0
OneBehindTheOther {T} {I} Does = (u v w : T) (is js : List I) → Ends Does u is v → Ends Does v js w → Ends Does u (is ++ js) w

-- and where there is an end of both, there is one of the first
abbrev pub FirstEnds : {T I : Type 0} → (T → I → Done T I → Type 0) → Type 0
FirstEnds {T} {I} Does = (u w : T) (is js : List I) → Ends Does u (is ++ js) w → (v : T) × Ends Does u is v × Ends Does v js w
