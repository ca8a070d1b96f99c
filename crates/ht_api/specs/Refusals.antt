-- Why a request makes no event, and what its reply tells.
use Rattle.std.specs.Prelude.{◌≡◌, ℕ, ◌==◌, Result, Ok, Err, if◌then◌else◌}
use Rattle.ht_base.specs.declared.reply.Refusal.{Refusal}
use Rattle.ht_base.specs.declared.reply.Refusal.TheVariants as refusal
use Rattle.ht_api.specs.declared.refusal.ApiRefusal.{ApiRefusal}
use Rattle.ht_api.specs.declared.refusal.ApiRefusal.TheVariants.{Route, Method, Json, Field, Person, Memory}

abbrev pub refusal_of : ApiRefusal → Refusal
refusal_of Route = refusal.Route
refusal_of Method = refusal.Method
refusal_of Json = refusal.Json
refusal_of (Field key) = refusal.Field key
refusal_of Person = refusal.Person
refusal_of Memory = refusal.Memory

-- of a connection that is refused with this status
abbrev pub wire_refusal : ℕ → Refusal
wire_refusal code =
    if code == 431 then refusal.Fields
    else (if code == 501 then refusal.Coding
    else (if code == 413 then refusal.Body
    else refusal.Head))

-- a call gave what was due, unless there was no memory
abbrev pub Gives : {A : Type 0} → Result A ApiRefusal → Result A ApiRefusal → Type 0
Gives due (Err Memory) = Unit {0}
Gives due given = given ≡ due

-- a call that fills a value left the one that was due, unless there was no memory
abbrev pub Fills : {A B : Type 0} → Result A ApiRefusal → A → Result B ApiRefusal → Type 0
Fills due new (Ok b) = Ok new ≡ due
Fills due new (Err Memory) = Unit {0}
Fills due new (Err why) = Err why ≡ due
