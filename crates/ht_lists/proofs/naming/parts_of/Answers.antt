use Rattle.std.proofs.Common.{◌≡◌, ℕ, true, List, length, refl, sym, subst, arith}
use Rattle.std.specs.List.{list_all}
use Rattle.std.proofs.lemmas.Option.{slice_get_read}
use Rattle.ht_base.specs.declared.scalar.Scalar.{Scalar}
use Rattle.ht_base.specs.declared.value.Value.{Value}
use Rattle.ht_base.specs.Values.{Ascend, IsBehind}
use Rattle.ht_lists.specs.Naming.{scalar_of}
use Rattle.ht_tree.specs.Soundness.{is_known, is_timely}
use Rattle.ht_lists.proofs.PartsShown.{next_behind, passes_at}
use Rattle.ht_lists.proofs.naming.parts_of.Goals as goal

pub scalar_of-requires-clause-known : goal.scalar_of-requires-clause-known
scalar_of-requires-clause-known c =
    let vs : List (List ℕ × Value) = c.as_slice-name-items.result.now in
    let v : List ℕ × Value = c.loop-name-item.result in
    let n = length c.args.people.now.persons in
    let all : list_all (is_known n) vs ≡ true = subst (λ (l : List (List ℕ × Value)). list_all (is_known n) l ≡ true) (sym c.as_slice-name-items.ensures.value) (c.requires).known in
    passes_at (is_known n) vs c.loop-name.name-index v all (omega arith) c.loop-name-item.is

pub scalar_of-requires-clause-timely : goal.scalar_of-requires-clause-timely
scalar_of-requires-clause-timely c =
    let vs : List (List ℕ × Value) = c.as_slice-name-items.result.now in
    let v : List ℕ × Value = c.loop-name-item.result in
    let all : list_all is_timely vs ≡ true = subst (λ (l : List (List ℕ × Value)). list_all is_timely l ≡ true) (sym c.as_slice-name-items.ensures.value) (c.requires).timely in
    passes_at is_timely vs c.loop-name.name-index v all (omega arith) c.loop-name-item.is

pub push-requires : goal.push-requires
push-requires c =
    let d = c.args.people.now in
    let vs : List (List ℕ × Value) = c.as_slice-name-items.result.now in
    let i = c.loop-name.name-index in
    let v : List ℕ × Value = c.loop-name-item.result in
    let A : List (List ℕ × Value) → Type 0 = λ xs. Ascend xs in
    let up = subst A (sym c.as_slice-name-items.ensures.value) c.as_slice-name-items.ensures.ascend in
    let there = slice_get_read vs (length vs) i v refl (omega arith) c.loop-name-item.is in
    let P : List (List ℕ × Scalar) → Type 0 = λ ps. IsBehind v.0 ps in
    subst P (sym c.loop-name.invariant) (next_behind (scalar_of d) vs up i v there)
