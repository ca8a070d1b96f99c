-- How the tables and plans are kept.
use Rattle.std.specs.Prelude.{◌≡◌, ◌-◌, ◌^◌, ◌≤◌, ℕ, length, min, take, vec_capacity, vec_len}
use Rattle.ht_tree.specs.declared.plan.Plan.TheInside.{Inside as PlanInside}
use Rattle.ht_tree.specs.declared.tables.Tables.TheInside.{Inside}
use Rattle.ht_tree.specs.declared.listed_by.ListedBy.TheVariants as by
use Rattle.ht_tree.specs.ListedBy.{AreInStep}
use Rattle.ht_tree.specs.Plans.{PlanOf, changes_of}
use Rattle.ht_tree.specs.RowDues.{all_dues}
use Rattle.ht_tree.specs.Sizes.{total_size}
use Rattle.ht_tree.specs.Soundness.{IsSound}
use Rattle.ht_tree.specs.Tables.{RoomyTables, TablesOf}

abbrev pub tables_in : Inside → TablesOf
tables_in t = record { models = t.models; people = t.people; rows = t.rows.items; notices = t.notices.items; slots = t.slots.items; last = t.last.0 }

-- their number has 32 bits
abbrev pub most_notices : ℕ
most_notices = 2 ^ 32 - 1

abbrev pub roomy : Inside → RoomyTables
roomy t = record { tables = tables_in t; room = vec_capacity t.rows - vec_len t.rows; notice_room = min (vec_capacity t.notices) most_notices - vec_len t.notices; slot_room = vec_capacity t.slots - vec_len t.slots; due_room = (t.queue).spare; gone = t.gone.items; news = t.news.items; sub_moves = (t.subs).moves; person_moves = (t.persons).moves; live_moves = (t.live).moves; owner_moves = (t.owners).moves }

pub record IsKept (t : Inside) : Type 0 where
  pub sound : IsSound (tables_in t)
  pub counted : t.size ≡ total_size t.models t.rows.items
  pub notices_few : length t.notices.items ≤ most_notices
  -- the queue is in step with the rows
  pub due : (t.queue).dues ≡ all_dues (tables_in t)
  -- and so are the lists of tasks
  pub subs : AreInStep by.Parent t.rows.items t.subs
  pub persons : AreInStep by.Person t.rows.items t.persons
  pub live : AreInStep by.Live t.rows.items t.live
  pub owners : AreInStep by.Owner t.rows.items t.owners

abbrev pub plan_in : PlanInside → PlanOf
plan_in p = record { changes = changes_of p.puts p.notices.items (p.noted).totals (p.noted).slot; marked = changes_of (take p.mark p.puts) (take p.notice_mark p.notices.items) (p.marked).totals (p.marked).slot }

pub record IsMarked (p : PlanInside) : Type 0 where
  pub puts : p.mark ≤ length p.puts
  pub notices : p.notice_mark ≤ length p.notices.items
