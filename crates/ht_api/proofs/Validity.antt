-- Every event that is due is valid.
use Rattle.std.proofs.Common.{◌≡◌, ◌≤◌, ◌∙◌, sym, refl, subst, ℕ, ◌&&◌, nat_le, Bool, true, false, List, [], ◌∷◌, Option, Some, None, option_and_then, Result, Ok, Err, if◌then◌else◌, bytes_eq}
use Rattle.std.specs.Prelude.{IfOk, IfSome, IsTrue}
use Rattle.std.specs.Char.{is_ascii}
use Rattle.std.specs.List.{list_all}
use Rattle.std.specs.Str.Parse.{digits_value}
use Rattle.std.proofs.lemmas.Bool.{and_parts, le-leb, leb-true}
use Rattle.ht_base.specs.declared.event.Event.{Event}
use Rattle.ht_base.specs.declared.event.Event.TheVariants.{Ask, Read}
use Rattle.ht_base.specs.declared.limits.TheConstants.{MOST_LISTED}
use Rattle.ht_base.specs.declared.moment.Moment.{Moment}
use Rattle.ht_base.specs.declared.query.Query.{Query}
use Rattle.ht_base.specs.declared.query.Query.TheVariants as query
use Rattle.ht_base.specs.declared.role.Role.{Role}
use Rattle.ht_base.specs.declared.task_id.TaskId.{TaskId}
use Rattle.ht_base.specs.Events.{AreCounted, IsQuery, IsValid, is_of_task}
use Rattle.ht_base.specs.Moment.{last_moment}
use Rattle.ht_wire.specs.declared.request.Request.{Request}
use Rattle.ht_api.specs.declared.asked.Asked.{Asked}
use Rattle.ht_api.specs.declared.asked.Asked.TheVariants as asked
use Rattle.ht_api.specs.declared.refusal.ApiRefusal.{ApiRefusal}
use Rattle.ht_api.specs.declared.refusal.ApiRefusal.TheVariants.{Method}
use Rattle.ht_api.specs.declared.routes.Path.{Path}
use Rattle.ht_api.specs.declared.routes.Path.TheVariants as path
use Rattle.ht_api.specs.declared.routes.Place.{Place}
use Rattle.ht_api.specs.declared.routes.Place.TheVariants as place
use Rattle.ht_api.specs.Asked.{asked_in, named_in, operations}
use Rattle.ht_api.specs.Commands.{Numbered, command_in}
use Rattle.ht_api.specs.Events.{asks, event_at, reads}
use Rattle.ht_api.specs.Lists.{of_name, role_asked, role_choice, role_choices, which_asked}
use Rattle.ht_api.specs.Numbers.{count_in, from_in, is_numeral, last_number, listed, numeral_in, task_in}
use Rattle.ht_api.specs.Refusals.{Gives}
use Rattle.ht_api.specs.Routes.{has_bytes, method_of, nth_of, parts, path_of, paths, place_at, place_from, place_of, place_of_path, routed, with_part}
use Rattle.ht_api.proofs.Fitting.{from_if, from_mapped, from_some}
use Rattle.ht_api.proofs.Numerals.{some_number}
use Rattle.ht_api.proofs.Sound.{FitsEvent, IsTask, command_fits}

-- ---- places

-- each operation with a name is asked of a task that is there
abbrev pub is_on_task : Asked → Bool
is_on_task asked.Create = false
is_on_task what = true

on_task : (what : Asked) (task : TaskId) → is_on_task what ≡ true → 1 ≤ task.0 → IsTask what task
on_task asked.Create task h t = cc
on_task what task h t = le-leb 1 task.0 t

on_task_if : (same : Bool) (this what : Asked) (later : Option Asked) → (if same then Some this else later) ≡ Some what → is_on_task this ≡ true → (later ≡ Some what → is_on_task what ≡ true) → is_on_task what ≡ true
on_task_if true this what later e h rest = let is : this ≡ what = cc in subst (λ (a : Asked). is_on_task a ≡ true) is h
on_task_if false this what later e h rest = rest e

named_on_task : (rows : List (List ℕ × Asked)) (name : List ℕ) (what : Asked) → list_all (λ row. is_on_task row.1) rows ≡ true → named_in rows name ≡ Some what → is_on_task what ≡ true
named_on_task [] name what h e = cc
named_on_task (row ∷ rows) name what h e = on_task_if (bytes_eq name row.0) row.1 what (named_in rows name) e p.0 (named_on_task rows name what p.1)
  where
    p : (is_on_task row.1 ≡ true) × (list_all (λ row. is_on_task row.1) rows ≡ true)
    p = and_parts (is_on_task row.1) (list_all (λ row. is_on_task row.1) rows) h

numeral_some : (text : List ℕ) (n : ℕ) → numeral_in text ≡ Some n → 1 ≤ n
numeral_some text n e =
    let q = from_if (is_numeral text && nat_le (digits_value 10 text) last_number) (digits_value 10 text) n e in
    subst (λ (n : ℕ). 1 ≤ n) q.1 (some_number text (and_parts (is_numeral text) (nat_le (digits_value 10 text) last_number) q.0).0)

task_some : (text : List ℕ) (t : TaskId) → task_in text ≡ Some t → 1 ≤ t.0
task_some text t e =
    let m = from_mapped (λ n. record { 0 = n }) (numeral_in text) t e in
    let P : TaskId → Type 0 = λ (t : TaskId). 1 ≤ t.0 in
    subst P m.2 (numeral_some text m.0 m.1)

count_some : (text : List ℕ) (n : ℕ) → count_in text ≡ Some n → AreCounted n
count_some text n e =
    let m = from_some (numeral_in text) listed n e in
    let q = from_if (nat_le m.0 MOST_LISTED) m.0 n m.2 in
    subst AreCounted q.1 (numeral_some text m.0 m.1, leb-true m.0 MOST_LISTED q.0)

-- what is named passes what all do
named_passes : {A : Type 0} (name : A → List ℕ) (test : A → Bool) (xs : List A) (text : List ℕ) (a : A) → list_all test xs ≡ true → of_name name xs text ≡ Some a → test a ≡ true
named_passes name test [] text a h e = cc
named_passes name test (x ∷ xs) text a h e = one (bytes_eq text (name x)) e (named_passes name test xs text a p.1)
  where
    p : (test x ≡ true) × (list_all test xs ≡ true)
    p = and_parts (test x) (list_all test xs) h

    one : (same : Bool) → (if same then Some x else of_name name xs text) ≡ Some a → (of_name name xs text ≡ Some a → test a ≡ true) → test a ≡ true
    one true e later = let is : x ≡ a = cc in subst (λ y. test y ≡ true) is p.0
    one false e later = later e

-- each list is one of a role that persons have in a task, or of any
abbrev goes_by : Option Role → Bool
goes_by None = true
goes_by (Some role) = is_of_task role

role_of_task : (role : Option Role) → goes_by role ≡ true → IfSome role (λ r. IsTrue (is_of_task r))
role_of_task None h = tt
role_of_task (Some role) h = h

abbrev pub IsPlace : Place → Type 0
IsPlace place.Tasks = Unit {0}
IsPlace (place.Task task) = 1 ≤ task.0
IsPlace (place.Operation task what) = IsTask what task
IsPlace (place.List role which from count) = IfSome role (λ r. IsTrue (is_of_task r)) × AreCounted count
IsPlace (place.Notifications from count) = AreCounted count

-- with a part that fits
from_part : {A : Type 0} (n : ℕ) (others : List (List ℕ)) (fit : List ℕ → Option A) (make : A → Option Place) (p : Place) → with_part n others fit make ≡ Some p
    → (part : List ℕ) × (a : A) × (fit part ≡ Some a) × (make a ≡ Some p)
from_part n others fit make p e =
    let q = from_some (option_and_then fit (nth_of n others)) make p e in
    let r = from_some (nth_of n others) fit q.0 q.1 in
    (r.0, q.0, r.2, q.2)

place_at_is : (path : Path) (others : List (List ℕ)) (p : Place) → place_at path others ≡ Some p → IsPlace p
place_at_is path.Tasks others p e = let same : place.Tasks ≡ p = cc in subst IsPlace same tt
place_at_is path.Task others p e =
    let t = from_part 0 others task_in (λ task. Some (place.Task task)) p e in
    let given = t.3 in
    let same : place.Task t.1 ≡ p = cc in
    subst IsPlace same (task_some t.0 t.1 t.2)
place_at_is path.Operation others p e =
    let t = from_part 0 others task_in (λ task. with_part 1 others asked_in (λ what. Some (place.Operation task what))) p e in
    let w = from_part 1 others asked_in (λ what. Some (place.Operation t.1 what)) p t.3 in
    let given = w.3 in
    let same : place.Operation t.1 w.1 ≡ p = cc in
    subst IsPlace same (on_task w.1 t.1 (named_on_task operations w.0 w.1 refl w.2) (task_some t.0 t.1 t.2))
place_at_is path.List others p e =
    let r = from_part 0 others role_asked (λ role. with_part 1 others which_asked (λ which. with_part 2 others from_in (λ from. with_part 3 others count_in (λ count. Some (place.List role which from count))))) p e in
    let w = from_part 1 others which_asked (λ which. with_part 2 others from_in (λ from. with_part 3 others count_in (λ count. Some (place.List r.1 which from count)))) p r.3 in
    let f = from_part 2 others from_in (λ from. with_part 3 others count_in (λ count. Some (place.List r.1 w.1 from count))) p w.3 in
    let c = from_part 3 others count_in (λ count. Some (place.List r.1 w.1 f.1 count)) p f.3 in
    let given = c.3 in
    let same : place.List r.1 w.1 f.1 c.1 ≡ p = cc in
    subst IsPlace same (role_of_task r.1 (named_passes role_choice goes_by role_choices r.0 r.1 refl r.2), count_some c.0 c.1 c.2)
place_at_is path.Notifications others p e =
    let f = from_part 0 others from_in (λ from. with_part 1 others count_in (λ count. Some (place.Notifications from count))) p e in
    let c = from_part 1 others count_in (λ count. Some (place.Notifications f.1 count)) p f.3 in
    let given = c.3 in
    let same : place.Notifications f.1 c.1 ≡ p = cc in
    subst IsPlace same (count_some c.0 c.1 c.2)

place_if : (t : Bool) (o : Option Place) (p : Place) → (if t then o else None) ≡ Some p → o ≡ Some p
place_if true o p e = e
place_if false o p e = cc

place_of_path_is : (o : Option Path) (others : List (List ℕ)) (p : Place) → place_of_path o others ≡ Some p → IsPlace p
place_of_path_is None others p e = cc
place_of_path_is (Some path) others p e = place_at_is path others p e

place_from_is : (ps : List (List ℕ)) (p : Place) → place_from ps ≡ Some p → IsPlace p
place_from_is [] p e = cc
place_from_is ([] ∷ []) p e = cc
place_from_is ((b ∷ bs) ∷ ps) p e = cc
place_from_is ([] ∷ (word ∷ others)) p e =
    place_of_path_is (path_of paths word others) others p (place_if (list_all has_bytes others) (place_of_path (path_of paths word others) others) p e)

place_is : (target : List ℕ) (p : Place) → place_of target ≡ Some p → IsPlace p
place_is target p e = place_from_is (parts target) p (place_if (list_all is_ascii target) (place_from (parts target)) p e)

method_fits : (t : Bool) (q p : Place) → ◌≡◌ {A = Result Place ApiRefusal} (if t then Ok q else Err Method) (Ok p) → q ≡ p
method_fits true q p e = cc
method_fits false q p e = cc

routed_is : (method : List ℕ) (o : Option Place) (p : Place) → routed method o ≡ Ok p → o ≡ Some p
routed_is method None p e = cc
routed_is method (Some q) p e = let same = method_fits (bytes_eq method (method_of q)) q p e in cc

-- ---- events

asks_valid : (at : Moment) (task : TaskId) (r : Result Numbered ApiRefusal) (caller : Option (List ℕ)) (e : Event) → asks at task r caller ≡ Ok e → at.0 ≤ last_moment
    → ((sent : Numbered) → r ≡ Ok sent → FitsEvent task sent) → IsValid e
asks_valid at task (Err why) caller e h l all = cc
asks_valid at task (Ok sent) None e h l all = cc
asks_valid at task (Ok (retry, c)) (Some name) e h l all =
    let same : Ask at name retry task c ≡ e = cc in
    let p = all (retry, c) refl in
    subst IsValid same (l, p.retry, p.command.0, p.command.1)

reads_valid : (asked : Query) (caller : Option (List ℕ)) (e : Event) → reads asked caller ≡ Ok e → IsQuery asked → IsValid e
reads_valid asked None e h l = cc
reads_valid asked (Some name) e h l = let same : Read name asked ≡ e = cc in subst IsValid same l

at_valid : (r : Request) (at : Moment) (p : Result Place ApiRefusal) (e : Event) → event_at r at p ≡ Ok e → at.0 ≤ last_moment → ((q : Place) → p ≡ Ok q → IsPlace q) → IsValid e
at_valid r at (Err why) e h l is = cc
at_valid r at (Ok place.Tasks) e h l is =
    asks_valid at (record { 0 = 0 }) (command_in asked.Create r.body.items) r.person e h l (λ sent made. command_fits (record { 0 = 0 }) sent asked.Create r.body.items made refl)
at_valid r at (Ok (place.Operation task what)) e h l is =
    asks_valid at task (command_in what r.body.items) r.person e h l (λ sent made. command_fits task sent what r.body.items made (is (place.Operation task what) refl))
at_valid r at (Ok (place.Task task)) e h l is = reads_valid (query.Sheet task) r.person e h (is (place.Task task) refl)
at_valid r at (Ok (place.List role which from count)) e h l is =
    reads_valid (query.Tasks role which from count) r.person e h (is (place.List role which from count) refl)
at_valid r at (Ok (place.Notifications from count)) e h l is = reads_valid (query.Notices from count) r.person e h (is (place.Notifications from count) refl)

given_valid : (due r : Result Event ApiRefusal) → Gives due r → ((e : Event) → due ≡ Ok e → IsValid e) → IfOk r IsValid
given_valid due (Ok e) h all = all e (sym h)
given_valid due (Err why) h all = tt

pub valid : (r : Request) (at : Moment) (p : Result Place ApiRefusal) (got : Result Event ApiRefusal) → Gives (event_at r at p) got → at.0 ≤ last_moment
    → p ≡ routed r.method (place_of r.target.items) → IfOk got IsValid
valid r at p got h l is =
    given_valid (event_at r at p) got h (λ e due. at_valid r at p e due l (λ q at_is. place_is r.target.items q (routed_is r.method _ q (sym is ∙ at_is))))
