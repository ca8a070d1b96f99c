-- The keyword that a word is.
use Rattle.std.proofs.Common.{◌≡◌, ◌≢◌, ℕ, Bool, true, false, cond, List, [], ◌∷◌, Option, Some, None, IfSome, IfNone, refl, ap, ◌∙◌}
use Rattle.std.specs.Prelude.{bytes_eq}
use Rattle.std.proofs.lemmas.Bool.{false_from_ne_true}
use Rattle.std.proofs.lemmas.Slice.Eq.{bytes_eq-Decides}
use Rattle.ht_expr.specs.declared.keyword.Keyword.{Keyword}
use Rattle.ht_expr.specs.declared.keyword.Keyword.TheVariants as keyword
use Rattle.ht_expr.specs.Keywords.{spelling}
use Rattle.ht_expr.specs.Expected.{if_some, keyword_in, keywords, spelled_so}

pub keyword_is : (k : Keyword) → keyword_in (spelling k) ≡ Some k
keyword_is keyword.If = refl
keyword_is keyword.Then = refl
keyword_is keyword.Else = refl
keyword_is keyword.Or = refl
keyword_is keyword.And = refl
keyword_is keyword.Not = refl
keyword_is keyword.True = refl
keyword_is keyword.False = refl
keyword_is keyword.Priority = refl
keyword_is keyword.Initiator = refl
keyword_is keyword.In = refl
keyword_is keyword.Out = refl
keyword_is keyword.Set = refl
keyword_is keyword.Made = refl
keyword_is keyword.Finished = refl
keyword_is keyword.Done = refl
keyword_is keyword.CountText = refl
keyword_is keyword.CountTrue = refl
keyword_is keyword.Nobody = refl
keyword_is keyword.Everybody = refl
keyword_is keyword.User = refl
keyword_is keyword.Group = refl
keyword_is keyword.Union = refl
keyword_is keyword.Intersect = refl
keyword_is keyword.Except = refl
keyword_is keyword.When = refl

found : (w : List ℕ) (k m : Keyword) (rest : Option Keyword) (b : Bool) → bytes_eq w (spelling k) ≡ b → (rest ≡ Some m → w ≡ spelling m) → cond b (Some k) rest ≡ Some m → w ≡ spelling m
found w k m rest true test below is = let equal = bytes_eq-Decides w (spelling k) in let same : k ≡ m = cc in equal.0 test ∙ ap spelling same
found w k m rest false test below is = below is

spelled : (w : List ℕ) (ks : List Keyword) (m : Keyword) → spelled_so w ks ≡ Some m → w ≡ spelling m
spelled w [] m is = absurd (cc)
spelled w (k ∷ ks) m is = found w k m (spelled_so w ks) (bytes_eq w (spelling k)) refl (spelled w ks m) is

-- a keyword is found where it is spelled
pub keyword_spelled : (w : List ℕ) (m : Keyword) → keyword_in w ≡ Some m → w ≡ spelling m
keyword_spelled w m is = spelled w keywords m is

none_of : (w : List ℕ) (ks : List Keyword) → ((k : Keyword) → w ≢ spelling k) → spelled_so w ks ≡ None
none_of w [] other = refl
none_of w (k ∷ ks) other =
    let equal = bytes_eq-Decides w (spelling k) in
    let test : bytes_eq w (spelling k) ≡ false = false_from_ne_true (bytes_eq w (spelling k)) (λ is. other k (equal.0 is)) in
    rw test (none_of w ks other)

pub no_keyword : (w : List ℕ) → ((k : Keyword) → w ≢ spelling k) → keyword_in w ≡ None
no_keyword w other = none_of w keywords other

-- what depends on the keyword
pub on_keyword : {B : Type 0} (w : List ℕ) (k : Keyword) (f : Keyword → Option B) → w ≡ spelling k → if_some (keyword_in w) f ≡ f k
on_keyword w k f is = ap (λ l. if_some (keyword_in l) f) is ∙ ap (λ o. if_some o f) (keyword_is k)

pub on_no_keyword : {B : Type 0} (w : List ℕ) (f : Keyword → Option B) → ((k : Keyword) → w ≢ spelling k) → if_some (keyword_in w) f ≡ None
on_no_keyword w f other = ap (λ o. if_some o f) (no_keyword w other)

pub if_found : (w : List ℕ) (o : Option Keyword) → keyword_in w ≡ o → IfSome o (λ k. w ≡ spelling k)
if_found w None is = tt
if_found w (Some k) is = keyword_spelled w k is

not_spelled : (w : List ℕ) (k : Keyword) → keyword_in w ≡ None → w ≢ spelling k
not_spelled w k none is =
    let there : keyword_in w ≡ Some k = ap keyword_in is ∙ keyword_is k in
    absurd (cc)

pub if_not_found : (w : List ℕ) (o : Option Keyword) → keyword_in w ≡ o → IfNone o ((k : Keyword) → w ≢ spelling k)
if_not_found w None is = λ k. not_spelled w k is
if_not_found w (Some k) is = tt
