use Rattle.std.proofs.Common.{◌≡◌, ◌<◌, ◌^◌, length, rules}
use Rattle.ht_tree.specs.KeptIndex.{tasks_in}
use Rattle.ht_tree.specs.Places.{last_place}
use Rattle.ht_tree.proofs.Indexing.{tasks_long}
use Rattle.ht_tree.proofs.Places.{place_small}
use Rattle.ht_tree.proofs.index.Index.place.Goals as goal

pub returns-clause-small : goal.returns-clause-small
returns-clause-small c =
    let puts = c.self.inside.puts.items in
    let long : length puts < 2 ^ 63 = search rules in
    let place : c.copied.result ≡ last_place c.args.task.0 (tasks_in puts) = search rules in
    place_small c.args.task.0 (tasks_in puts) (2 ^ 63) c.copied.result place (rw (tasks_long puts) long)
