-- Changes of the tables that keep the rows at their numbers and in order, and leave no more to do.
use Rattle.std.proofs.Common.{◌≡◌, ℕ, ◌+◌, ◌-◌, ◌≤◌, zero, suc, true, false, is_some, List, [], ◌∷◌, ◌++◌, length, length-append, map, Option, None, Some, inl, inr, refl, sym, subst, ap, ◌∙◌, arith}
use Rattle.std.proofs.lemmas.List.{length-map}
use Rattle.std.proofs.lemmas.Option.{slice_get_within}
use Rattle.std.specs.Prelude.{slice_get, slice_set}
use Rattle.std.specs.Option.{option_map_or}
use Rattle.ht_base.specs.Places.{place_in}
use Rattle.ht_compose.specs.Families.{StillThere}
use Rattle.ht_compose.specs.Work.{AreNumbered, going_on, work}
use Rattle.ht_compose.proofs.Counting.{going_on_fewer, going_on_map, going_on_push, going_on_set}
use Rattle.ht_compose.proofs.InOrder.{AreInOrder, IsInOrder, StayInOrder, map_in_order, put_in_order}
use Rattle.ht_compose.proofs.Standing.{there_as_alike, there_behind}
use Rattle.ht_models.specs.Model.{ModelOf, names}
use Rattle.ht_entries.specs.SubEntries.{SubEntry}
use Rattle.ht_models.specs.TreeSizes.{AreSized, entry_size, size_at}
use Rattle.ht_tree.proofs.PublicLaws.{Alike, alike_put, behind_is, in_less, in_push, length-put_in, map_alike, new_small, of_itself, of_less, put_new, put_old, standing, there_alike, to_come_alike}
use Rattle.ht_tree.specs.declared.row.Row.{Row}
use Rattle.ht_base.specs.State.{is_final}
use Rattle.ht_tree.specs.Families.{is_made, to_come}
use Rattle.ht_tree.specs.Plans.{Replaces}
use Rattle.ht_tree.specs.Rows.{model_in, put_in, row_at}
use Rattle.ht_tree.specs.Tables.{TablesOf, with_row, with_rows}

pub record Fit (u : TablesOf) : Type 0 where
  pub numbered : AreNumbered u.rows
  pub sized : AreSized u.models

pub record NoMore (old new : TablesOf) : Type 0 where
  pub fit : Fit new
  pub there : StillThere old new
  pub less : work new ≤ work old
  pub order : StayInOrder old new

pub record Less (old new : TablesOf) : Type 0 where
  pub fit : Fit new
  pub there : StillThere old new
  pub less : work new + 1 ≤ work old
  pub order : StayInOrder old new

numbered_alike : (xs ys : List Row) → Alike xs ys → AreNumbered xs → AreNumbered ys
numbered_alike xs ys alike numbered task row at =
    let old = there_alike xs ys alike task row at in
    sym (ap (λ b. b.0) old.2) ∙ numbered task old.0 old.1

-- ---- a row in its place

pub changed : (u : TablesOf) (task : ℕ) (old row : Row) → Fit u → row_at task u.rows ≡ Some old → standing row ≡ standing old → is_final old.state ≡ false → (IsInOrder u.models old → IsInOrder u.models row) → NoMore u (with_row u row)
changed u zero old row fit at same live order = absurd cc
changed u (suc i) old row fit at same live order =
    let number : row.task.0 ≡ suc i = ap (λ b. b.0) same ∙ fit.numbered (suc i) old at in
    let place : Replaces u.rows row = record {
      before = old;
      there = ap (λ (n : ℕ). row_at n u.rows) number ∙ at;
      parent = ap (λ b. b.1.0) same;
      model = ap (λ b. b.1.1) same;
    } in
    let alike = alike_put u.rows row place (ap (λ b. b.0) (sym same)) in
    let within = slice_get_within u.rows i old at in
    let index : row.task.0 - 1 ≡ i = omega (arith, number) in
    let rows_are : put_in u.rows row ≡ slice_set u.rows i row = put_old u.rows row (omega (arith, number, within)) ∙ ap (λ (k : ℕ). slice_set u.rows k row) index in
    let set = going_on_set u.rows i old row at live in
    let count = ap going_on rows_are in
    let come = to_come_alike u.models u.rows (put_in u.rows row) alike in
    record {
      fit = record { numbered = numbered_alike u.rows (put_in u.rows row) alike fit.numbered; sized = fit.sized };
      there = there_as_alike u (put_in u.rows row) alike;
      less = omega (arith, set, count, come);
      order = record {
        models = refl;
        counted = let long = length-put_in u.rows row (omega (arith, number), omega (arith, number, within)) in omega (arith, long, come, number, within);
        rows = λ all. put_in_order u row (omega (arith, number), omega (arith, number, within)) (order (all (suc i) old at)) all;
      };
    }

-- ---- each row in its place

module _ (u : TablesOf) (f : Row → Row) (fit : Fit u) (same : (row : Row) → standing (f row) ≡ standing row) (ends : (row : Row) → is_final row.state ≡ true → is_final (f row).state ≡ true) (order : (row : Row) → IsInOrder u.models row → IsInOrder u.models (f row)) where
  fit_map : Fit (with_rows u (map f u.rows))
  fit_map = record { numbered = numbered_alike u.rows (map f u.rows) (map_alike f same u.rows) fit.numbered; sized = fit.sized }

  there_map : StillThere u (with_rows u (map f u.rows))
  there_map = there_as_alike u (map f u.rows) (map_alike f same u.rows)

  order_map : StayInOrder u (with_rows u (map f u.rows))
  order_map =
      let come = to_come_alike u.models u.rows (map f u.rows) (map_alike f same u.rows) in
      let long = length-map u.rows f in
      record { models = refl; counted = omega (arith, come, long); rows = map_in_order u f order }

  pub mapped : NoMore u (with_rows u (map f u.rows))
  mapped =
      let come = to_come_alike u.models u.rows (map f u.rows) (map_alike f same u.rows) in
      let count = going_on_map f ends u.rows in
      record { fit = fit_map; there = there_map; less = omega (arith, come, count); order = order_map }

  -- and this one has ended
  pub mapped_less : (task : ℕ) (row : Row) → row_at task u.rows ≡ Some row → is_final row.state ≡ false → is_final (f row).state ≡ true → Less u (with_rows u (map f u.rows))
  mapped_less zero row at live ended = absurd cc
  mapped_less (suc i) row at live ended =
      let come = to_come_alike u.models u.rows (map f u.rows) (map_alike f same u.rows) in
      let count = going_on_fewer f ends u.rows i row at live ended in
      record { fit = fit_map; there = there_map; less = omega (arith, come, count); order = order_map }

-- ---- a sub task behind the others

-- of an entry that isn't made yet
pub record IsNext (u : TablesOf) (above : Row) (e : ℕ) (row : Row) : Type 0 where
  pub m : ModelOf
  pub known : model_in u.models above ≡ Some m
  pub entry : SubEntry
  pub listed : slice_get m.subs e ≡ Some entry
  pub not_made : is_made above.task.0 e u.rows ≡ false
  pub named : place_in entry.model (names u.models) ≡ Some row.model
  pub of : ModelOf
  pub there : model_in u.models row ≡ Some of
  pub number : row.task.0 ≡ length u.rows + 1
  pub parent : row.parent ≡ Some (above.task, e)
  pub waits : row.waits ≡ None
  pub until : row.until ≡ None

fewer_to_come : (u : TablesOf) (task e : ℕ) (above row : Row) → Fit u → row_at task u.rows ≡ Some above → IsNext u above e row → to_come u.models (u.rows ++ row ∷ []) + 1 ≤ to_come u.models u.rows
fewer_to_come u zero e above row fit at next = absurd cc
fewer_to_come u (suc i) e above row fit at next =
    let of = of_itself above.task.0 e row above.task next.parent refl in
    let size : entry_size u.models next.entry ≡ size_at u.models row.model = ap (λ (o : Option ℕ). option_map_or (size_at u.models) o 0) next.named in
    let less = in_less u.models u.rows row above (entry_size u.models next.entry) i u.rows (of_less u.models u.rows row above next.m e next.entry next.known of next.not_made next.listed) at in
    let push = in_push u.models (u.rows ++ row ∷ []) u.rows row in
    let small = new_small u.models (u.rows ++ row ∷ []) row next.of next.there (fit.sized row.model next.of next.there).counted in
    omega (arith, size, less, push, small)

numbered_push : (rows : List Row) (row : Row) → row.task.0 ≡ length rows + 1 → AreNumbered rows → AreNumbered (rows ++ row ∷ [])
numbered_push rows row number numbered task r at = elim (behind_is rows row r task at) [
  | inl h ↦ numbered task r h
  | inr h ↦ sym (ap (λ (x : Row). x.task.0) h.1) ∙ number ∙ sym h.0
]

new_in_order : (u : TablesOf) (above : Row) (e : ℕ) (row : Row) → IsNext u above e row → IsInOrder u.models row
new_in_order u above e row next = record {
  model = slice_get_within u.models row.model next.of next.there;
  waits = λ h. absurd (let e : false ≡ true = ap is_some (sym next.waits) ∙ h in cc);
  until = λ h. absurd (let e : false ≡ true = ap is_some (sym next.until) ∙ h in cc);
}

pub made : (u : TablesOf) (task e : ℕ) (above row : Row) → Fit u → row_at task u.rows ≡ Some above → IsNext u above e row → Less u (with_row u row)
made u task e above row fit at next =
    let number = next.number in
    let rows_are : put_in u.rows row ≡ u.rows ++ row ∷ [] = put_new u.rows row (omega (arith, number)) in
    let come = fewer_to_come u task e above row fit at next in
    let push = going_on_push u.rows row in
    let P : List Row → Type 0 = λ rows. StillThere u (with_rows u rows) → Less u (with_rows u rows) in
    let all : AreInOrder u → AreInOrder (with_row u row) = put_in_order u row (omega (arith, number), omega (arith, number)) (new_in_order u above e row next) in
    let O : List Row → Type 0 = λ rows. AreInOrder u → AreInOrder (with_rows u rows) in
    let long = length-append u.rows (row ∷ []) in
    subst P (sym rows_are) (λ there. record {
      fit = record { numbered = numbered_push u.rows row number fit.numbered; sized = fit.sized };
      there = there;
      less = omega (arith, come, push);
      order = record { models = refl; counted = omega (arith, come, long); rows = subst O rows_are all };
    }) (there_behind u row number)
