use Rattle.std.proofs.Common.{◌≡◌, drop}
use Rattle.ht_api.specs.Table.{paths_of, with_paths}
use Rattle.ht_api.proofs.routes.insert_all.Given as goal

abbrev pub invariant-loop-text : goal.invariant-loop-text
invariant-loop-text l = with_paths (paths_of (drop l.text-index l.paths)) l.router ≡ with_paths (paths_of l.paths) l.fn.router
