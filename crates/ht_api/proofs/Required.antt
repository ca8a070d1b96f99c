-- The fields that are read have each required key.
use Rattle.std.proofs.Common.{◌≡◌, refl, subst, ℕ, Bool, true, false, List, [], ◌∷◌, Option, Some, None, IsSome, Result, Ok, Err, if◌then◌else◌}
use Rattle.serde_json.specs.Data.{Data}
use Rattle.serde_json.specs.Find.{get}
use Rattle.ht_api.specs.declared.asked.Asked.{Asked}
use Rattle.ht_api.specs.declared.asked.Asked.TheVariants as asked
use Rattle.ht_api.specs.declared.fields.Fields.{Fields}
use Rattle.ht_api.specs.declared.keys.Key.{Key}
use Rattle.ht_api.specs.declared.keys.Key.TheVariants.{Model, OneEnd}
use Rattle.ht_api.specs.declared.refusal.ApiRefusal.{ApiRefusal}
use Rattle.ht_api.specs.declared.refusal.ApiRefusal.TheVariants.{Field}
use Rattle.ht_api.specs.Commands.{Has, HasAll, HasIf}
use Rattle.ht_api.specs.Fields.{fields_from, no_fields, number_keys, or_refused, rows_in, taken, then_taken, turn, with_key, without}
use Rattle.ht_api.specs.Keys.{key_name, keys_of}
use Rattle.ht_api.proofs.ByKey.{field, from_key, key_keeps, put_there, with_field}

held : (key : Key) (f : Fields) → IsSome (field key f) → Has key f
held Model f h = h
held OneEnd f h = cc
held key f h = h

holds : (key : Key) (f : Fields) → Has key f → IsSome (field key f)
holds Model f h = h
holds OneEnd f h = absurd h
holds key f h = h

kept : (j : Key) (d : Data) (f g : Fields) → with_key j d f ≡ Some g → (k : Key) → Has k f → Has k g
kept j d f g e k h = held k g (key_keeps (λ k o. Has k f → IsSome o) j d f g e (λ a is there. refl) (λ k there. holds k f there) k h)

some_is : {A : Type 0} (o : Option A) (a : A) → o ≡ Some a → IsSome o
some_is o a e = rw e refl

has : (j : Key) (d : Data) (f g : Fields) → with_key j d f ≡ Some g → Has j g
has j d f g e =
    let m = from_key j d f g e in
    subst (Has j) m.2 (held j (with_field j f m.0) (some_is (field j (with_field j f m.0)) m.0 (put_there j f m.0)))

missing_has : (required : Bool) (f g : Fields) (k : Key) → without required f ≡ Some g → HasIf required k g
missing_has true f g k e = cc
missing_has false f g k e = tt

if_needed : (required : Bool) (k : Key) (g : Fields) → Has k g → HasIf required k g
if_needed true k g h = h
if_needed false k g h = tt

turn_has : (row : Key × Bool) (o : Option Data) (f g : Fields) → turn row o f ≡ Some g → HasIf row.1 row.0 g
turn_has row None f g e = missing_has row.1 f g row.0 e
turn_has row (Some d) f g e = if_needed row.1 row.0 g (has row.0 d f g e)

still : (required : Bool) (k : Key) (f g : Fields) → HasIf required k f → (Has k f → Has k g) → HasIf required k g
still true k f g h go = go h
still false k f g h go = tt

pub passed : (key : Key) (next : Fields → Result Fields ApiRefusal) (o : Option Fields) (g : Fields) → or_refused key next o ≡ Ok g → (f : Fields) × (o ≡ Some f) × (next f ≡ Ok g)
passed key next None g e = cc
passed key next (Some f) g e = (f, refl, e)

-- what each value keeps, all of them keep
module _ (P : Fields → Type 0) (each : (j : Key) (d : Data) (f g : Fields) → with_key j d f ≡ Some g → P f → P g) where
  missing_kept : (required : Bool) (f g : Fields) → without required f ≡ Some g → P f → P g
  missing_kept true f g e h = cc
  missing_kept false f g e h = let same : f ≡ g = cc in subst P same h

  turn_kept : (row : Key × Bool) (o : Option Data) (f g : Fields) → turn row o f ≡ Some g → P f → P g
  turn_kept row None f g e h = missing_kept row.1 f g e h
  turn_kept row (Some d) f g e h = each row.0 d f g e h

  pub taken_kept : (rows : List (Key × Bool)) (d : Data) (f g : Fields) → taken rows d f ≡ Ok g → P f → P g
  taken_kept [] d f g e h = let same : f ≡ g = cc in subst P same h
  taken_kept (row ∷ rows) d f g e h =
      let p = passed row.0 (taken rows d) (turn row (get (key_name row.0) d) f) g e in
      taken_kept rows d p.0 g p.2 (turn_kept row (get (key_name row.0) d) f p.0 p.1 h)

taken_has : (rows : List (Key × Bool)) (d : Data) (f g : Fields) → taken rows d f ≡ Ok g → HasAll rows g
taken_has [] d f g e = tt
taken_has (row ∷ rows) d f g e =
    let p = passed row.0 (taken rows d) (turn row (get (key_name row.0) d) f) g e in
    (still row.1 row.0 p.0 g (turn_has row (get (key_name row.0) d) f p.0 p.1) (taken_kept (Has row.0) (λ j d f g e. kept j d f g e row.0) rows d p.0 g p.2), taken_has rows d p.0 g p.2)

pub known_only : (known : Bool) (body : List ℕ) (r : Result Fields ApiRefusal) (g : Fields) → (if known then r else Err (Field body)) ≡ Ok g → r ≡ Ok g
known_only true body r g e = e
known_only false body r g e = cc

behind_number : (rows : List (Key × Bool)) (d : Data) (r : Result Fields ApiRefusal) (g : Fields) → then_taken rows d r ≡ Ok g → (f : Fields) × (r ≡ Ok f) × (taken rows d f ≡ Ok g)
behind_number rows d (Err why) g e = cc
behind_number rows d (Ok f) g e = (f, refl, e)

-- the fields of a body are taken behind those of its number
pub from_number : (asked : Asked) (d : Data) (g : Fields) → fields_from asked (Some d) ≡ Ok g → (f : Fields) × (taken (number_keys d) d no_fields ≡ Ok f) × (taken (rows_in asked d) d f ≡ Ok g)
from_number asked d g e = behind_number (rows_in asked d) d (taken (number_keys d) d no_fields) g (known_only _ _ _ g e)

pub has_required : (asked : Asked) (o : Option Data) (g : Fields) → fields_from asked o ≡ Ok g → HasAll (keys_of asked) g
has_required asked None g e = cc
has_required asked.SuspendUntil (Some d) g e = (tt, (tt, tt))
has_required asked (Some d) g e = let q = from_number asked d g e in taken_has (keys_of asked) d q.0 g q.2
