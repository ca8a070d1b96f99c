use Rattle.std.proofs.Common.{◌≡◌, ◌∙◌, ◌∷◌, Bool, true, false, not, ℕ, List, codes, map, ap, sym, refl}
use Rattle.ht_program.proofs.Grammar.{same_text}
use Rattle.ht_program.proofs.Options.{bytes_of}
use Rattle.ht_program.proofs.words.are_alone.Goals as goal

is_true : (b : Bool) → not b ≡ false → b ≡ true
is_true true e = refl
is_true false e = absurd (cc)

pub returns-in-Some-clause-no : goal.returns-in-Some-clause-no
returns-in-Some-clause-no c = λ is.
    let rest = map bytes_of c.in-Some.field-0-1.now in
    (rest, ap (map bytes_of) (sym c.deref.ensures.value ∙ c.in-Some.ensures.cases.0) ∙ ap (λ (w : List ℕ). w ∷ rest) (same_text (bytes_of c.in-Some.command.now) (codes "serve") c.is_word.result c.is_word.ensures (is_true c.is_word.result is)))
