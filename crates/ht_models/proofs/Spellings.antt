-- What reading a text as an expression or an assignment says of the text.
use Rattle.std.proofs.Common.{◌≡◌, ◌≢◌, ℕ, List, Option, None, Some, ap, sym, ◌∙◌, refl, Ok, Err, Result, true, false, inl, inr, IfErr, IfOk, option_map}
use Rattle.std.proofs.lemmas.Bool.{both_ways}
use Rattle.ht_base.specs.declared.kind.Kind.{Kind}
use Rattle.ht_base.specs.declared.kind.Kind.TheVariants.{Text, Int, Truth, Person, Instant}
use Rattle.ht_expr.specs.Kinds.{Declared}
use Rattle.ht_expr.specs.KindTable.{kind_of, same_kind}
use Rattle.ht_expr.specs.Nodes.{ExprOf}
use Rattle.ht_expr.specs.Reading as expression_reads
use Rattle.ht_expr.specs.Shown.{AreDeclared, shown_answer}
use Rattle.ht_expr.specs.Trees.{Tree, an_assignment, an_expression}
use Rattle.ht_expr.specs.declared.assignment.Assign.{Assign}
use Rattle.ht_expr.specs.declared.refusal.ExprRefusal.{ExprRefusal}
use Rattle.ht_expr.specs.declared.refusal.ExprRefusal.TheVariants as refusal
use Rattle.ht_expr.specs.AssignmentKinds.{Assigns}
use Rattle.ht_expr.proofs.PublicLaws.{one_written}
use Rattle.ht_models.specs.Expressions.{Asked, IsRefused, One, Spells, asked, assignment, expression}
use Rattle.ht_models.specs.Reading.{IsIfAny, IsOr}
use Rattle.ht_models.specs.Shown.{tree_or}

-- ---- what is refused

no_tree : (kinds : Declared) (level : ℕ) (text : List ℕ) (e : ExprRefusal) → expression_reads.IsOnly kinds level text (Err e) → e ≢ refusal.Memory → (tree : Tree) → expression_reads.Reads kinds level text (Ok tree) → ⊥
no_tree kinds level text e exact some tree reads = let same = exact (Ok tree) reads (λ h. some (cc)) (λ h. cc) in absurd (cc)

pub no_assignment : (kinds : Declared) (text : List ℕ) (e : ExprRefusal) → expression_reads.IsOnly kinds an_assignment text (Err e) → e ≢ refusal.Memory → IsRefused kinds (assignment, text)
no_assignment kinds text e exact some tree spells = no_tree kinds an_assignment text e exact some tree spells

pub no_assignment_read : (kinds : Declared) (text : List ℕ) (r : Result Assign ExprRefusal) → expression_reads.IsOnly kinds an_assignment text (shown_answer r) → IfErr r (λ e. e ≢ refusal.Memory → IsRefused kinds (assignment, text))
no_assignment_read kinds text (Ok a) exact = tt
no_assignment_read kinds text (Err e) exact = no_assignment kinds text e exact

pub no_expression : (kinds : Declared) (kind : Kind) (text : List ℕ) (e : ExprRefusal) → expression_reads.IsOnly kinds an_expression text (Err e) → e ≢ refusal.Memory → IsRefused kinds (expression kind, text)
no_expression kinds kind text e exact some tree spells = no_tree kinds an_expression text e exact some tree spells.0

same_itself : (kind : Kind) → same_kind kind kind ≡ true
same_itself Text = refl
same_itself Int = refl
same_itself Truth = refl
same_itself Person = refl
same_itself Instant = refl

-- nor is it an expression of this kind that is one of another
pub other_kind : (kinds : Declared) (kind found : Kind) (text : List ℕ) (tree : Tree) → expression_reads.Reads kinds an_expression text (Ok tree) → kind_of kinds tree ≡ Some found → same_kind kind found ≡ false → IsRefused kinds (expression kind, text)
other_kind kinds kind found text tree reads is other x spells =
    let same = one_written an_expression text tree x reads.0 (spells.0).0 in
    let one : Some found ≡ Some kind = sym is ∙ ap (kind_of kinds) same ∙ spells.1 in
    let alike : kind ≡ found = cc in
    both_ways (same_kind kind found) other (sym (ap (same_kind kind) alike) ∙ same_itself kind)

-- ---- what was read has its kinds

pub assigns_read : (kinds : Declared) (text : List ℕ) (r : Result Assign ExprRefusal) → expression_reads.Reads kinds an_assignment text (shown_answer r) → IfOk r (AreDeclared kinds) → IfOk r (Assigns kinds)
assigns_read kinds text (Ok a) reads declared = record { declared = declared; fits = reads.1 }
assigns_read kinds text (Err e) reads declared = tt

pub same_is : (kind found : Kind) → same_kind kind found ≡ true → found ≡ kind
same_is Text Text is = refl
same_is Int Int is = refl
same_is Truth Truth is = refl
same_is Person Person is = refl
same_is Instant Instant is = refl
same_is a b is = absurd (cc)

-- ---- a text is one tree

one_spelling : (kinds : Declared) (what : Asked) (text : List ℕ) (a b : Tree) → Spells kinds (what, text) a → Spells kinds (what, text) b → a ≡ b
one_spelling kinds (expression kind) text a b s t = one_written an_expression text a b (s.0).0 (t.0).0
one_spelling kinds assignment text a b s t = one_written an_assignment text a b s.0 t.0

module _ (kinds : Declared) (what : Asked) where
  pub one_or : (missing : Tree) (text : Option (List ℕ)) (a b : Tree) → IsOr kinds what missing text a → IsOr kinds what missing text b → a ≡ b
  one_or missing None a b s t = s ∙ sym t
  one_or missing (Some text) a b s t = one_spelling kinds what text a b s t

  pub one_if_any : (text : Option (List ℕ)) (a b : Option Tree) → IsIfAny kinds what text a → IsIfAny kinds what text b → a ≡ b
  one_if_any None a b s t = s ∙ sym t
  one_if_any (Some text) None b s t = absurd s
  one_if_any (Some text) (Some a) None s t = absurd t
  one_if_any (Some text) (Some a) (Some b) s t = ap (λ (x : Tree). Some x) (one_spelling kinds what text a b s t)

  -- ---- and then it isn't refused

  pub or_not_refused : (missing : Tree) (text : Option (List ℕ)) (a : Tree) → IsOr kinds what missing text a → One (IsRefused kinds) (asked what text) → ⊥
  or_not_refused missing None a is one = one
  or_not_refused missing (Some text) a is (inl refused) = refused a is
  or_not_refused missing (Some text) a is (inr none) = none

  pub if_any_not_refused : (text : Option (List ℕ)) (a : Option Tree) → IsIfAny kinds what text a → One (IsRefused kinds) (asked what text) → ⊥
  if_any_not_refused None a is one = one
  if_any_not_refused (Some text) None is one = is
  if_any_not_refused (Some text) (Some a) is (inl refused) = refused a is
  if_any_not_refused (Some text) (Some a) is (inr none) = none

  -- ---- a tree that stands for a missing one

  pub or_of_if_any : (missing : Tree) (text : Option (List ℕ)) (e : Option ExprOf) → IsIfAny kinds what text (option_map (λ e. e.tree) e) → IsOr kinds what missing text (tree_or missing e)
  or_of_if_any missing None None is = refl
  or_of_if_any missing None (Some e) is = absurd (cc)
  or_of_if_any missing (Some text) None is = absurd is
  or_of_if_any missing (Some text) (Some e) is = is
