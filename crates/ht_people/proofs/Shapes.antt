-- Which entries of a document have another shape.
use Rattle.std.proofs.Common.{◌≡◌, ℕ, Bool, true, false, List, [], ◌∷◌, Option, Some, None, if◌then◌else◌, Result, Ok, Err, codes, inl, inr, length, refl}
use Rattle.std.proofs.lemmas.Bool.{both_ways}
use Rattle.toml.specs.Data.{Data, Members}
use Rattle.ht_base.proofs.PublicLaws.{neither}
use Rattle.ht_toml.specs.Entries as shape
use Rattle.ht_toml.specs.Entries.{each}
use Rattle.ht_toml.specs.Refusals.{Passes, refused}
use Rattle.ht_toml.specs.Tables.{has_only}
use Rattle.ht_toml.proofs.PublicLaws.{all_there}
use Rattle.ht_people.specs.declared.refusal.PeopleRefusal.{PeopleRefusal}
use Rattle.ht_people.specs.declared.refusal.PeopleRefusal.TheVariants.{Field, Memory}
use Rattle.ht_people.specs.declared.entries.PersonEntry.{PersonEntry}
use Rattle.ht_people.specs.PeopleText.{GroupText, HasShapeFault, IsMisshapen, PeopleTextOf, entries_at, group_entries, group_of, is_top, person_entries, person_of, read_entries, text_of}

both_read : (persons groups : List Data) (t : PeopleTextOf) → read_entries persons groups ≡ Some t → (ps : List PersonEntry) × (gs : List GroupText) × (each person_of persons ≡ Some ps) × (each group_of groups ≡ Some gs)
both_read persons groups t h = at (each person_of persons) (each group_of groups) refl refl h
  where
    at : (p : Option (List PersonEntry)) (g : Option (List GroupText)) → each person_of persons ≡ p → each group_of groups ≡ g → read_entries persons groups ≡ Some t → (ps : List PersonEntry) × (gs : List GroupText) × (each person_of persons ≡ Some ps) × (each group_of groups ≡ Some gs)
    at None g p is h = absurd (let e : None ≡ Some t = rw p at h in cc)
    at (Some ps) None p is h = absurd (let e : None ≡ Some t = rw (p, is) at h in cc)
    at (Some ps) (Some gs) p is h = (ps, gs, p, is)

-- where everything was read, nothing has another shape
pub all_shaped : (persons groups : List Data) (t : PeopleTextOf) → read_entries persons groups ≡ Some t → (place : ℕ) → HasShapeFault persons groups place → ⊥
all_shaped persons groups t h =
    let both = both_read persons groups t h in
    neither (length persons) (shape.IsMisshapen person_of persons) (shape.IsMisshapen group_of groups) (all_there person_of persons both.0 both.2) (all_there group_of groups both.1 both.3)

pub none_misshapen : (ms : Members) (t : PeopleTextOf) → text_of ms ≡ Some t → (place : ℕ) → IsMisshapen ms place → ⊥
none_misshapen ms t h place bad = at (is_top ms) refl h bad
  where
    at : (b : Bool) → is_top ms ≡ b → (if b then read_entries (person_entries ms) (group_entries ms) else None) ≡ Some t → IsMisshapen ms place → ⊥
    at false e h bad = cc
    at true e h (inl top) = both_ways (is_top ms) top.0 e
    at true e h (inr entry) = all_shaped (person_entries ms) (group_entries ms) t h place entry

-- what a pass over the entries tells, or doesn't, where the document has its shape
top_passes : {T : Type 0} (ms : Members) (r : Result T PeopleRefusal) → is_top ms ≡ true → Passes Memory (refused Field (HasShapeFault (person_entries ms) (group_entries ms))) r → Passes Memory (refused Field (IsMisshapen ms)) r
top_passes ms (Ok v) top none = λ place bad. elim bad [ inl h ↦ both_ways (is_top ms) h.0 top | inr h ↦ none place h ]
top_passes ms (Err a) top told = λ some.
    let first = told some in
    (first.0, first.1, record { holds = inr first.2.holds; least = λ place bad. elim bad [ inl h ↦ absurd (both_ways (is_top ms) h.0 top) | inr h ↦ first.2.least place h ] })

pub entries_pass : {T : Type 0} (ms : Members) (persons groups : List Data) (r : Result T PeopleRefusal) → has_only (codes "person" ∷ codes "group" ∷ []) ms ≡ true → Some persons ≡ entries_at (codes "person") ms → Some groups ≡ entries_at (codes "group") ms
    → Passes Memory (refused Field (HasShapeFault persons groups)) r → Passes Memory (refused Field (IsMisshapen ms)) r
entries_pass ms persons groups r known p g told = top_passes ms r (rw (known, ← p, ← g) refl) (rw (← p, ← g) told)
