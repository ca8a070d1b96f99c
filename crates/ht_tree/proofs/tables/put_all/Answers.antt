use Rattle.std.proofs.Common.{◌≡◌, List, length, fold, ap, sym, ◌∙◌, arith, rules, subst, vec_len}
use Rattle.std.specs.Vec.Iter.{into_iter_items}
use Rattle.ht_tree.specs.declared.row.Row.{Row}
use Rattle.ht_tree.specs.Puts.{CanPut}
use Rattle.ht_tree.specs.Rows.{put_in}
use Rattle.ht_tree.proofs.Putting.{few_fold, length-put_in}
use Rattle.ht_tree.proofs.tables.put_all.Goals as goal

pub put_row-requires-clause-room : goal.put_row-requires-clause-room
put_row-requires-clause-room c =
    let rows = c.loop-row.rows.items in
    let row = c.in-Some.row in
    let rest = into_iter_items c.next.new.self in
    let P : List Row → Type 0 = λ l. CanPut rows l in
    let can = subst P c.in-Some.ensures.steps.0 c.loop-row.invariant.puts in
    let long = few_fold (put_in rows row) rest can.1 in
    let one = length-put_in rows row can.0 in
    let same = ap (λ (l : List Row). length l) (sym (ap (λ (l : List Row). fold put_in rows l) c.in-Some.ensures.steps.0) ∙ c.loop-row.invariant.rows) in
    let room = c.requires.room in
    let capacity = c.loop-row.invariant.capacity in
    let len : vec_len c.loop-row.rows ≡ length rows = search rules in
    λ new. omega arith

pub loop-row-preserved : goal.loop-row-preserved
loop-row-preserved c =
    let rows = c.loop-row.rows.items in
    let row = c.in-Some.row in
    let rest = into_iter_items c.next.new.self in
    let P : List Row → Type 0 = λ l. CanPut rows l in
    let can = subst P c.in-Some.ensures.steps.0 c.loop-row.invariant.puts in
    let Q : List Row → Type 0 = λ l. CanPut l rest in
    record {
      next = tt;
      ends = tt;
      puts = subst Q (sym c.put_row.ensures.rows) can.1;
      rows =
          ap (λ (l : List Row). fold put_in l rest) c.put_row.ensures.rows
          ∙ sym (ap (λ (l : List Row). fold put_in rows l) c.in-Some.ensures.steps.0)
          ∙ c.loop-row.invariant.rows;
      capacity = c.put_row.ensures.capacity ∙ c.loop-row.invariant.capacity;
    }
