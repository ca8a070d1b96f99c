-- The router of the table of paths, and the place that it finds.
use Rattle.std.specs.Prelude.{ℕ, List, [], ◌∷◌, Option, option_and_then, Result, Ok, Err}
use Rattle.std.specs.Borrow.{Bor}
use Rattle.matchit.specs.Order.{placed}
use Rattle.matchit.specs.Params.{walk}
use Rattle.matchit.specs.Route.{Scan, parse_route}
use Rattle.matchit.specs.Router.{RouteOf, route_from}
use Rattle.matchit.specs.Rows.{RowsOf}
use Rattle.matchit.specs.declared.error.InsertError.{InsertError}
use Rattle.ht_api.specs.declared.routes.Path.{Path}
use Rattle.ht_api.specs.declared.routes.Place.{Place}
use Rattle.ht_api.specs.Routes.{paths, place_at}

abbrev pub with_read : Result Scan InsertError → Path → RowsOf (RouteOf Path) → RowsOf (RouteOf Path)
with_read (Ok s) path rows = placed (s.pattern, route_from s path) rows
with_read (Err e) path rows = rows

-- a router with these paths too
abbrev pub with_paths : List (List ℕ × Path) → RowsOf (RouteOf Path) → RowsOf (RouteOf Path)
with_paths [] rows = rows
with_paths (p ∷ ps) rows = with_paths ps (with_read (parse_route p.0) p.1 rows)

unfoldable pub table : RowsOf (RouteOf Path)
table = with_paths paths []

-- the paths as the code has them
abbrev pub paths_of : List (Bor (List ℕ) × Path) → List (List ℕ × Path)
paths_of [] = []
paths_of (p ∷ ps) = (p.0.now, p.1) ∷ paths_of ps

-- ---- the parts of a path that the parameters of a route took, in their order

abbrev pub values_of : List (List ℕ × List ℕ) → List (List ℕ)
values_of [] = []
values_of (p ∷ ps) = p.1 ∷ values_of ps

abbrev pub parts_of : RouteOf Path → List ℕ → List (List ℕ)
parts_of r path = values_of (walk r.pattern r.text path r.names 0 0)

-- the place of a path that is found as this route
abbrev pub found : List ℕ → Option (RouteOf Path) → Option Place
found target route = option_and_then (λ r. place_at r.value (parts_of r target)) route
