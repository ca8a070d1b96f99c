-- Slots in the order of their persons and devices.
use Rattle.std.proofs.Common.{◌≡◌, ◌≢◌, ◌≤◌, ℕ, List, [], ◌∷◌, length, Some, Result, Ok, Err, IfOk, IfErr, Ordering, Less, Equal, Greater, refl, sym, ap, subst, ◌∙◌, arith}
use Rattle.std.specs.Cmp.{IsTotalOrder}
use Rattle.std.specs.List.{AllByRecursion}
use Rattle.std.specs.List.Sorted.{IsBinarySearchResult, IsSearchInRange}
use Rattle.std.specs.Ordering.{nat_cmp, on, then_cmp}
use Rattle.std.proofs.lemmas.Cmp.{nat_cmp_total, on_total, ranked, then_total, tied_itself}
use Rattle.ht_base.specs.declared.operation.Op.{Op}
use Rattle.ht_base.specs.declared.operation.Op.TheVariants as op
use Rattle.ht_base.specs.declared.task_id.TaskId.{TaskId}
use Rattle.ht_base.specs.Ordered.{AscendBy, placed_by}
use Rattle.ht_base.proofs.PublicLaws.{IsGap, IsThere, ascend_placed, each_placed, found_placed, other_found, searched_by}
use Rattle.ht_people.specs.Directory.{DirectoryOf}
use Rattle.ht_tree.specs.declared.slot.Kept.{Kept}
use Rattle.ht_tree.specs.declared.slot.Kept.TheVariants.{Done}
use Rattle.ht_tree.specs.declared.slot.Slot.{Slot}
use Rattle.ht_tree.specs.Slots.{IsAbsent, IsNamedBy, IsPresent, IsSoundReply, IsSoundSlot, slot_cmp, slot_in, slot_order, slots_with}

-- ---- by person and device

abbrev key : Slot → ℕ × ℕ
key s = (s.person, s.device)

abbrev key_cmp : ℕ × ℕ → ℕ × ℕ → Ordering
key_cmp = then_cmp (on (λ k. k.0) nat_cmp) (on (λ k. k.1) nat_cmp)

keys_total : IsTotalOrder key_cmp
keys_total = then_total (on_total (λ k. k.0) nat_cmp_total) (on_total (λ k. k.1) nat_cmp_total)

-- a slot of the device has its place
for_slot : (person device : ℕ) (slot : Slot) (slots : List Slot) → slot.person ≡ person → slot.device ≡ device → placed_by (slot_order person device) slot slots ≡ slots_with slots slot
for_slot person device slot slots p d =
    ap (λ n. placed_by (slot_order n device) slot slots) (sym p)
    ∙ ap (λ n. placed_by (slot_order slot.person n) slot slots) (sym d)

is_present : (person device : ℕ) (slots : List Slot) (i : ℕ) → IsThere key key_cmp keys_total (person, device) slots i → IsPresent person device slots i
is_present person device slots i is = record {
  within = is.within;
  found = is.found;
  replaced = λ slot p d. is.replaced slot ∙ for_slot person device slot slots p d;
}

is_absent : (person device : ℕ) (slots : List Slot) (i : ℕ) → IsGap key key_cmp keys_total (person, device) slots i → IsAbsent person device slots i
is_absent person device slots i is = record {
  within = is.within;
  missed = is.none;
  inserted = λ slot p d. is.inserted slot ∙ for_slot person device slot slots p d;
}

-- what a search for a device answers
pub searched_slot : (person device : ℕ) (slots : List Slot) (r : Result ℕ ℕ) → AscendBy slot_cmp slots → IsSearchInRange r (length slots) → IsBinarySearchResult (slot_order person device) slots r → record { found : IfOk r (IsPresent person device slots); missed : IfErr r (IsAbsent person device slots) }
searched_slot person device slots (Ok i) up within position = record { found = is_present person device slots i (searched_by key key_cmp keys_total (person, device) slots (Ok i) up within position); missed = tt }
searched_slot person device slots (Err i) up within position = record { found = tt; missed = is_absent person device slots i (searched_by key key_cmp keys_total (person, device) slots (Err i) up within position) }

-- ---- that they are sound

-- they stay so where there are more tasks
named_by_more : (tasks more : ℕ) (o : Op) (task : TaskId) → tasks ≤ more → IsNamedBy tasks o task → IsNamedBy more o task
named_by_more tasks more op.Get task up is = is
named_by_more tasks more o task up is = (is.0, let high = is.1 in omega arith)

reply_of_more : (people : DirectoryOf) (tasks more : ℕ) (reply : Kept) → tasks ≤ more → IsSoundReply people tasks reply → IsSoundReply people more reply
reply_of_more people tasks more (Done task state owner) up is = ((is.0.0, let high = is.0.1 in omega arith), is.1)

slot_of_more : (people : DirectoryOf) (tasks more : ℕ) (s : Slot) → tasks ≤ more → IsSoundSlot people tasks s → IsSoundSlot people more s
slot_of_more people tasks more s up is = record {
  person = is.person;
  numbered = is.numbered;
  task = named_by_more tasks more s.op s.task up is.task;
  kept = reply_of_more people tasks more s.kept up is.kept;
}

pub slots_of_more : (people : DirectoryOf) (tasks more : ℕ) (slots : List Slot) → tasks ≤ more → AllByRecursion (IsSoundSlot people tasks) slots → AllByRecursion (IsSoundSlot people more) slots
slots_of_more people tasks more [] up are = tt
slots_of_more people tasks more (s ∷ slots) up are = (slot_of_more people tasks more s up are.0, slots_of_more people tasks more slots up are.1)

-- and with another of them
pub slots_with_ascend : (slot : Slot) (slots : List Slot) → AscendBy slot_cmp slots → AscendBy slot_cmp (slots_with slots slot)
slots_with_ascend slot slots up = ascend_placed key key_cmp keys_total (slot.person, slot.device) slot slots refl up

pub slots_with_sound : (people : DirectoryOf) (tasks : ℕ) (slot : Slot) (slots : List Slot) → IsSoundSlot people tasks slot → AllByRecursion (IsSoundSlot people tasks) slots → AllByRecursion (IsSoundSlot people tasks) (slots_with slots slot)
slots_with_sound people tasks slot slots is are = each_placed (IsSoundSlot people tasks) (slot_order slot.person slot.device) slot slots is are

-- ---- which slot is found

-- that of the device
pub slot_is : (person device : ℕ) (slots : List Slot) (s : Slot) → slot_in person device slots ≡ Some s → (s.person ≡ person) × (s.device ≡ device)
slot_is person device [] s e = cc
slot_is person device (x ∷ slots) s e = at (slot_order person device x) refl (slot_is person device slots s)
  where
    level : nat_cmp x.person person ≡ Equal → nat_cmp x.device device ≡ Equal → (x.person ≡ person) × (x.device ≡ device)
    level p d = (ranked x.person person Equal (sym p), ranked x.device device Equal (sym d))

    tie : (o : Ordering) → nat_cmp x.person person ≡ o → slot_order person device x ≡ Equal → (x.person ≡ person) × (x.device ≡ device)
    tie Less is same = let e : Less ≡ Equal = rw is at same in cc
    tie Equal is same = level is (rw is at same)
    tie Greater is same = let e : Greater ≡ Equal = rw is at same in cc

    at : (o : Ordering) → slot_order person device x ≡ o → (slot_in person device slots ≡ Some s → (s.person ≡ person) × (s.device ≡ device)) → (s.person ≡ person) × (s.device ≡ device)
    at Less is rest = rest (rw is at e)
    at Equal is rest =
        let same : Some x ≡ Some s = rw is at e in
        let this : x ≡ s = cc in
        let P : Slot → Type 0 = λ y. (y.person ≡ person) × (y.device ≡ device) in
        subst P this (tie (nat_cmp x.person person) refl is)
    at Greater is rest = rest (rw is at e)

-- the new one of its device
pub new_slot_found : (slot : Slot) (slots : List Slot) → slot_in slot.person slot.device (slots_with slots slot) ≡ Some slot
new_slot_found slot slots = found_placed (slot_order slot.person slot.device) slot slots (tied_itself keys_total (slot.person, slot.device))

-- and of another device the one from before
pub other_slot_found : (slot : Slot) (slots : List Slot) (person device : ℕ) → ((slot.person ≡ person) × (slot.device ≡ device) → ⊥) → AscendBy slot_cmp slots → slot_in person device (slots_with slots slot) ≡ slot_in person device slots
other_slot_found slot slots person device apart up = other_found key key_cmp keys_total (slot.person, slot.device) slot slots (person, device) refl differ up
  where
    differ : key_cmp (slot.person, slot.device) (person, device) ≢ Equal
    differ e = let found = slot_is person device (slot ∷ []) slot (rw e refl) in apart found
