-- Which entries of a document have another shape.
use Rattle.std.proofs.Common.{◌≡◌, ℕ, ◌≤◌, Bool, true, false, ◌&&◌, if◌then◌else◌, List, [], ◌∷◌, length, Some, None, Option, option_map, unwrap_or, codes, subst, refl, inl, inr, arith}
use Rattle.std.specs.Option.{option_and_then}
use Rattle.toml.specs.Data.{Data, Members}
use Rattle.ht_base.specs.Places.{IsLeast}
use Rattle.ht_toml.specs.Entries as shape
use Rattle.ht_toml.specs.Entries.{each}
use Rattle.ht_toml.specs.Keys.{required}
use Rattle.ht_toml.specs.Tables.{entries_of, has_only}
use Rattle.ht_toml.proofs.PublicLaws.{all_there}
use Rattle.ht_entries.specs.ModelEntries.{ModelEntry, entry_of}
use Rattle.ht_models.specs.ModelsText.{IsMisshapen, entries, has_entry, is_top, models_text}

-- under a document of its shape, the first entry of another shape is the least place
pub least_misshapen : (ms : Members) (ds : List Data) (place : ℕ) → is_top ms ≡ true → ds ≡ entries ms → IsLeast (shape.IsMisshapen entry_of ds) place → IsLeast (IsMisshapen ms) place
least_misshapen ms ds place top same found =
    let first : IsLeast (shape.IsMisshapen entry_of (entries ms)) place = subst (λ (ds : List Data). IsLeast (shape.IsMisshapen entry_of ds) place) same found in
    record { holds = inr first.holds; least = λ other bad. here first other bad }
  where
    here : IsLeast (shape.IsMisshapen entry_of (entries ms)) place → (other : ℕ) → IsMisshapen ms other → place ≤ other
    here first other (inl (bad, zero)) = cc
    here first other (inr bad) = first.least other bad

-- a document of another shape is wrong at 0
pub least_top : (ms : Members) → is_top ms ≡ false → IsLeast (IsMisshapen ms) 0
least_top ms bad = record { holds = inl (bad, refl); least = λ other _. omega arith }

-- where all was read, nothing has another shape
pub none_misshapen : (ms : Members) (t : List ModelEntry) → models_text ms ≡ Some t → (place : ℕ) → IsMisshapen ms place → ⊥
none_misshapen ms t is place bad = here (is_top ms) refl is bad
  where
    here : (top : Bool) → is_top ms ≡ top → (if top then each entry_of (entries ms) else None) ≡ Some t → IsMisshapen ms place → ⊥
    here true top is (inl (bad, zero)) = cc
    here true top is (inr bad) = all_there entry_of (entries ms) t is place bad
    here false top is bad = cc

pub read_whole : (ms : Members) (ds : List Data) (t : List ModelEntry) → is_top ms ≡ true → ds ≡ entries ms → each entry_of ds ≡ Some t → models_text ms ≡ Some t
read_whole ms ds t top same read = rw (top, ← same) read

-- a document of its shape has an entry
pub some_entry : (ms : Members) (t : List ModelEntry) → models_text ms ≡ Some t → 1 ≤ length t
some_entry ms t is = here (has_only (codes "model" ∷ []) ms) (required entries_of (codes "model") ms) is
  where
    longer : (o : Option ModelEntry) (r : Option (List ModelEntry)) → option_and_then (λ e. option_map (λ es. e ∷ es) r) o ≡ Some t → 1 ≤ length t
    longer None r is = cc
    longer (Some e) None is = cc
    longer (Some e) (Some es) is = let same : e ∷ es ≡ t = cc in subst (λ (l : List ModelEntry). 1 ≤ length l) same (omega arith)

    here : (known : Bool) (o : Option (List Data)) → (if known && has_entry o then each entry_of (unwrap_or o []) else None) ≡ Some t → 1 ≤ length t
    here false o is = cc
    here true None is = cc
    here true (Some []) is = cc
    here true (Some (d ∷ ds)) is = longer (entry_of d) (each entry_of ds) is
