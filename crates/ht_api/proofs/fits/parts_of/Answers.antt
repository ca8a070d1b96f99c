use Rattle.std.proofs.Common.{◌≡◌, ◌∙◌, List, ℕ, ap, sym, subst, string_bytes}
use Rattle.serde_json.specs.View.{members_view, view}
use Rattle.ht_base.specs.declared.scalar.Scalar.{Scalar}
use Rattle.ht_base.specs.Name.{name_of}
use Rattle.ht_api.specs.Fits.{parts_of}
use Rattle.ht_api.proofs.Fitting.{before, one_part_more}
use Rattle.ht_api.proofs.KeysAscend.{Follows, follows_push, name_is}
use Rattle.ht_api.proofs.fits.parts_of.Goals as goal

pub loop-key-preserved : goal.loop-key-preserved
loop-key-preserved c =
    let l = c.loop-key in
    let named = sym c.of.ensures ∙ c.in-Some-of.is in
    let is : c.in-Some-of.name ≡ string_bytes c.in-Some.key.now = name_is _ _ named ∙ c.as_bytes.ensures.value in
    let steps = c.in-Some.ensures.steps in
    let put = sym c.in_ok-push.ensures.ok in
    record {
      found = l.invariant.found ∙ ap (λ es. before l.parts (parts_of (members_view es))) steps
          ∙ one_part_more l.parts (string_bytes c.in-Some.key.now) c.in-Some-of.name (view c.in-Some.value.now) c.in-Some-2.scalar (members_view c.next.new.self)
          (ap name_of (sym c.as_bytes.ensures.value) ∙ named) (sym c.in_ok-scalar.ensures ∙ c.in-Some-2.is)
          ∙ ap (λ ps. before ps (parts_of (members_view c.next.new.self))) put;
      follows = subst (λ (ps : List (List ℕ × Scalar)). Follows ps c.next.new.self) put
          (follows_push l.parts (c.in-Some.key.now, c.in-Some.value.now) c.next.new.self c.in-Some-of.name c.in-Some-2.scalar is
          (subst (Follows l.parts) steps l.invariant.follows));
    }
