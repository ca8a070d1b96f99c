-- The paths of the table are put into a router one after another.
use Rattle.std.proofs.Common.{inl, inr, ◌≡◌, ◌∙◌, ap, sym, ℕ, ◌+◌, ◌<◌, List, ◌∷◌, length, drop, get_or, Result, Ok, Err}
use Rattle.std.proofs.lemmas.List.{drop_more}
use Rattle.std.specs.Borrow.{Bor}
use Rattle.matchit.specs.Route.{Scan, parse_route}
use Rattle.matchit.specs.Router.{InsertsRead, RouteOf}
use Rattle.matchit.specs.Rows.{RowsOf}
use Rattle.matchit.specs.declared.error.InsertError.{InsertError}
use Rattle.ht_api.specs.declared.routes.Path.{Path}
use Rattle.ht_api.specs.Table.{paths_of, with_paths, with_read}

inserted : (x : Result Scan InsertError) (path : Path) (old new : RowsOf (RouteOf Path)) (u : Unit {0}) → InsertsRead x path old new (Ok u) → with_read x path old ≡ new
inserted (Ok s) path old new u h = sym h.1
inserted (Err e) path old new u h = elim h.1 [ inl is ↦ cc | inr is ↦ cc ]

pub one_more : (ps : List (Bor (List ℕ) × Path)) (none : Bor (List ℕ) × Path) (i : ℕ) (old new all : RowsOf (RouteOf Path)) (u : Unit {0}) → i < length ps
    → with_paths (paths_of (drop i ps)) old ≡ all → InsertsRead (parse_route (get_or ps i none).0.now) (get_or ps i none).1 old new (Ok u) → with_paths (paths_of (drop (i + 1) ps)) new ≡ all
one_more ps none i old new all u less before h =
    let p = get_or ps i none in
    ap (with_paths (paths_of (drop (i + 1) ps))) (sym (inserted (parse_route p.0.now) p.1 old new u h))
    ∙ sym (ap (λ (l : List (Bor (List ℕ) × Path)). with_paths (paths_of l) old) (drop_more ps i none less))
    ∙ before
