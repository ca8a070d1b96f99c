-- Plans that go on as items are done.
use Rattle.std.specs.Prelude.{◌≡◌, ◌≤◌, List, map}
use Rattle.ht_base.specs.declared.moment.Moment.{Moment}
use Rattle.ht_compose.specs.declared.item.Item.{Item as Task}
use Rattle.ht_compose.specs.declared.item.Item.TheVariants as task
use Rattle.ht_compose.specs.Agenda.{Ends}
use Rattle.ht_compose.specs.Families.{StillThere}
use Rattle.ht_compose.specs.Items.{Does, Item, Step}
use Rattle.ht_compose.specs.Items.Item.{Activate, Begin, Check, Close, Make, Next, Up}
use Rattle.ht_compose.specs.Work.{work}
use Rattle.ht_tree.specs.Plans.{Goes, PlanOf, planned}
use Rattle.ht_tree.specs.Soundness.{IsSound}
use Rattle.ht_tree.specs.Tables.{TablesOf}

abbrev pub item_of : Task → Item
item_of (task.Activate t) = Activate t.0
item_of (task.Begin t) = Begin t.0
item_of (task.Make t e) = Make t.0 e
item_of (task.Check t) = Check t.0
item_of (task.Close t end) = Close t.0 end
item_of (task.Up above sub) = Up above.0 sub.0
item_of (task.Next above sub) = Next above.0 sub.0

-- the plan goes on by one item, which puts these
pub record Acts (t : TablesOf) (old new : PlanOf) (at : Moment) (item : Item) (puts : List Task) : Type 0 where
  pub done : Step
  pub does : Does at (planned t old) item done
  pub goes : Goes t old new (planned t old) done.tables
  pub sound : IsSound done.tables
  pub puts_are : map item_of puts ≡ done.puts

-- to the end of a list of items
pub record Runs (t : TablesOf) (old new : PlanOf) (at : Moment) (items : List Item) : Type 0 where
  pub after : TablesOf
  pub ends : Ends (Does at) (planned t old) items after
  pub goes : Goes t old new (planned t old) after
  pub sound : IsSound after
  pub there : StillThere (planned t old) after
  pub less : work after ≤ work (planned t old)
