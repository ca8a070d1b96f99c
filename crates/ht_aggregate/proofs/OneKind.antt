-- Where all values are of one kind, as many are of it as there are values.
use Rattle.std.proofs.Common.{◌≡◌, suc, List, [], ◌∷◌, length, refl, ap}
use Rattle.std.specs.List.{All}
use Rattle.std.proofs.lemmas.List.Elements.{All-head, All-tail}
use Rattle.ht_base.specs.Kinds.{kind_of_value}
use Rattle.ht_base.specs.declared.kind.Kind.{Kind}
use Rattle.ht_base.specs.declared.kind.Kind.TheVariants as kind
use Rattle.ht_base.specs.declared.value.Value.{Value}
use Rattle.ht_base.specs.declared.value.Value.TheVariants.{Text, Int, Truth, Person, Instant}
use Rattle.ht_aggregate.specs.Given.{numbers, texts, truths}

abbrev pub AreOf : Kind → List Value → Type 0
AreOf k values = All (λ v. kind_of_value v ≡ k) values

next : (k : Kind) (v : Value) (vs : List Value) → AreOf k (v ∷ vs) → (kind_of_value v ≡ k) × AreOf k vs
next k v vs h = (All-head (λ v. kind_of_value v ≡ k) v vs h, All-tail (λ v. kind_of_value v ≡ k) v vs h)

pub length-texts : (vs : List Value) → AreOf kind.Text vs → length (texts vs) ≡ length vs
length-texts [] h = refl
length-texts (Text x ∷ vs) h = ap suc (length-texts vs (next kind.Text (Text x) vs h).1)
length-texts (Int x ∷ vs) h = absurd (let e = (next kind.Text (Int x) vs h).0 in cc)
length-texts (Truth x ∷ vs) h = absurd (let e = (next kind.Text (Truth x) vs h).0 in cc)
length-texts (Person x ∷ vs) h = absurd (let e = (next kind.Text (Person x) vs h).0 in cc)
length-texts (Instant x ∷ vs) h = absurd (let e = (next kind.Text (Instant x) vs h).0 in cc)

pub length-truths : (vs : List Value) → AreOf kind.Truth vs → length (truths vs) ≡ length vs
length-truths [] h = refl
length-truths (Truth x ∷ vs) h = ap suc (length-truths vs (next kind.Truth (Truth x) vs h).1)
length-truths (Text x ∷ vs) h = absurd (let e = (next kind.Truth (Text x) vs h).0 in cc)
length-truths (Int x ∷ vs) h = absurd (let e = (next kind.Truth (Int x) vs h).0 in cc)
length-truths (Person x ∷ vs) h = absurd (let e = (next kind.Truth (Person x) vs h).0 in cc)
length-truths (Instant x ∷ vs) h = absurd (let e = (next kind.Truth (Instant x) vs h).0 in cc)

pub length-numbers : (vs : List Value) → AreOf kind.Int vs → length (numbers vs) ≡ length vs
length-numbers [] h = refl
length-numbers (Int x ∷ vs) h = ap suc (length-numbers vs (next kind.Int (Int x) vs h).1)
length-numbers (Text x ∷ vs) h = absurd (let e = (next kind.Int (Text x) vs h).0 in cc)
length-numbers (Truth x ∷ vs) h = absurd (let e = (next kind.Int (Truth x) vs h).0 in cc)
length-numbers (Person x ∷ vs) h = absurd (let e = (next kind.Int (Person x) vs h).0 in cc)
length-numbers (Instant x ∷ vs) h = absurd (let e = (next kind.Int (Instant x) vs h).0 in cc)
