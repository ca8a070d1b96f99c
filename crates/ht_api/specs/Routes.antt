-- What a method and a target ask for (RFC 9110, 9.1, and RFC 9112, 3.2).
use Rattle.std.specs.Prelude.{ℕ, ◌-◌, ◌==◌, ◌&&◌, Bool, true, false, List, [], ◌∷◌, length, Option, Some, None, option_and_then, Result, Ok, Err, bytes_eq, codes, if◌then◌else◌}
use Rattle.std.specs.Char.{is_ascii}
use Rattle.std.specs.List.{list_all}
use Rattle.ht_api.specs.declared.refusal.ApiRefusal.{ApiRefusal}
use Rattle.ht_api.specs.declared.refusal.ApiRefusal.TheVariants.{Route, Method}
use Rattle.ht_api.specs.declared.routes.Path.{Path}
use Rattle.ht_api.specs.declared.routes.Path.TheVariants as path
use Rattle.ht_api.specs.declared.routes.Place.{Place}
use Rattle.ht_api.specs.declared.routes.Place.TheVariants as place
use Rattle.ht_api.specs.Asked.{asked_in}
use Rattle.ht_api.specs.Lists.{role_asked, which_asked}
use Rattle.ht_api.specs.Numbers.{count_in, from_in, task_in}

-- ---- the parts of a path

abbrev pub slash : ℕ
slash = 47

-- a byte in front of the first part
abbrev pub with_byte : ℕ → List (List ℕ) → List (List ℕ)
with_byte b [] = (b ∷ []) ∷ []
with_byte b (p ∷ ps) = (b ∷ p) ∷ ps

-- what stands before, between and behind the slashes
abbrev pub parts : List ℕ → List (List ℕ)
parts [] = [] ∷ []
parts (b ∷ bs) = if b == slash then [] ∷ parts bs else with_byte b (parts bs)

abbrev pub has_bytes : List ℕ → Bool
has_bytes [] = false
has_bytes (b ∷ bs) = true

-- ---- the table of paths

-- Each begins with a word. What stands in braces is a part of its own. They stand in the order in which
-- `matchit` keeps them, which no definition looks at.
abbrev pub paths : List (List ℕ × Path)
paths =
    (codes "/lists/{role}/{which}/{from}/{count}", path.List)
    ∷ (codes "/notifications/{from}/{count}", path.Notifications)
    ∷ (codes "/tasks/{id}/{op}", path.Operation)
    ∷ (codes "/tasks/{id}", path.Task)
    ∷ (codes "/tasks", path.Tasks)
    ∷ []

-- the word, which stands behind the first slash
abbrev pub word_in : List (List ℕ) → List ℕ
word_in (before ∷ (word ∷ others)) = word
word_in ps = []

-- the parts behind the word
abbrev pub others_in : List (List ℕ) → List (List ℕ)
others_in (before ∷ (word ∷ others)) = others
others_in ps = []

-- the path of the table with this word and as many other parts
abbrev pub path_of : List (List ℕ × Path) → List ℕ → List (List ℕ) → Option Path
path_of [] word others = None
path_of (row ∷ rows) word others =
    if bytes_eq (word_in (parts row.0)) word && (length (others_in (parts row.0)) == length others) then Some row.1 else path_of rows word others

-- ---- places

abbrev pub nth_of : ℕ → List (List ℕ) → Option (List ℕ)
nth_of n [] = None
nth_of n (part ∷ others) = if n == 0 then Some part else nth_of (n - 1) others

-- with what a part fits
abbrev pub with_part : {A : Type 0} → ℕ → List (List ℕ) → (List ℕ → Option A) → (A → Option Place) → Option Place
with_part n others fit make = option_and_then make (option_and_then fit (nth_of n others))

-- the place of a path whose other parts are these, if they fit
abbrev pub place_at : Path → List (List ℕ) → Option Place
place_at path.Tasks others = Some place.Tasks
place_at path.Task others = with_part 0 others task_in (λ task. Some (place.Task task))
place_at path.Operation others =
    with_part 0 others task_in (λ task.
    with_part 1 others asked_in (λ what. Some (place.Operation task what)))
place_at path.List others =
    with_part 0 others role_asked (λ role.
    with_part 1 others which_asked (λ which.
    with_part 2 others from_in (λ from.
    with_part 3 others count_in (λ count. Some (place.List role which from count)))))
place_at path.Notifications others =
    with_part 0 others from_in (λ from.
    with_part 1 others count_in (λ count. Some (place.Notifications from count)))

abbrev pub place_of_path : Option Path → List (List ℕ) → Option Place
place_of_path None others = None
place_of_path (Some p) others = place_at p others

-- Of a target by its parts: it begins with a slash, and no part behind the word is empty.
abbrev pub place_from : List (List ℕ) → Option Place
place_from ([] ∷ (word ∷ others)) = if list_all has_bytes others then place_of_path (path_of paths word others) others else None
place_from ps = None

-- a target that isn't ASCII has none
abbrev pub place_of : List ℕ → Option Place
place_of target = if list_all is_ascii target then place_from (parts target) else None

-- ---- methods

abbrev pub method_of : Place → List ℕ
method_of place.Tasks = codes "POST"
method_of (place.Task task) = codes "GET"
method_of (place.Operation task what) = codes "POST"
method_of (place.List role which from count) = codes "GET"
method_of (place.Notifications from count) = codes "GET"

-- a place has one method
abbrev pub by_method : List ℕ → Place → Result Place ApiRefusal
by_method method p = if bytes_eq method (method_of p) then Ok p else Err Method

abbrev pub routed : List ℕ → Option Place → Result Place ApiRefusal
routed method None = Err Route
routed method (Some p) = by_method method p
