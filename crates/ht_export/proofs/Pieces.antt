-- A text that is written in pieces, one behind another.
use Rattle.std.proofs.Common.{ℕ, List, [], ◌++◌, Option, sym, ap, subst, ◌∙◌, append_assoc, append-nil, Result, Ok, Err, OnErr}
use Rattle.ht_export.specs.Pieces.{Leaves}
use Rattle.ht_outside.proofs.PublicLaws.{Grows-trans}
use Rattle.ht_outside.specs.Tells.{Grows, GrowsPart}

-- a part of a text is one of a longer text
pub part_longer : (o p : Option (List ℕ)) (text rest : List ℕ) → GrowsPart o p text → GrowsPart o p (text ++ rest)
part_longer o p text rest w = (w.0, w.1 ++ rest, ap (λ l. l ++ rest) w.2 ∙ append_assoc w.0 w.1 rest, w.3)

module _ (o p q : Option (List ℕ)) (text piece : List ℕ) (before : Leaves o p text piece) where
  -- more is put behind the piece, and some of that written
  pub leaves_on : (more left : List ℕ) → Leaves p q (piece ++ more) left → Leaves o q (text ++ more) left
  leaves_on more left now = record {
    done = before.done ++ now.done;
    wrote = Grows-trans o p q before.done now.done before.wrote now.wrote;
    is = ap (λ l. l ++ more) before.is ∙ append_assoc before.done piece more ∙ ap (λ l. before.done ++ l) now.is ∙ sym (append_assoc before.done now.done left);
  }

  -- the piece is written
  pub whole_on : Grows p q piece → Grows o q text
  whole_on now = subst (λ l. Grows o q l) (sym before.is) (Grows-trans o p q before.done piece before.wrote now)

  -- a part of the piece and of more behind it is written
  pub part_on : (more : List ℕ) → GrowsPart p q (piece ++ more) → GrowsPart o q (text ++ more)
  part_on more now = (
    before.done ++ now.0,
    now.1,
    ap (λ l. l ++ more) before.is ∙ append_assoc before.done piece more ∙ ap (λ l. before.done ++ l) now.2 ∙ sym (append_assoc before.done now.0 now.1),
    Grows-trans o p q before.done now.0 before.wrote now.3,
  )

  pub part_last : GrowsPart p q piece → GrowsPart o q text
  part_last now = subst (λ l. GrowsPart o q l) (append-nil text) (part_on [] (subst (λ l. GrowsPart p q l) (sym (append-nil piece)) now))

pub at_err : {T E P : Type 0} (r : Result T E) → P → OnErr r P
at_err (Ok t) p = tt
at_err (Err e) p = p
