use Rattle.std.proofs.Common.{◌<◌, ℕ, arith, length, sym}
use Rattle.std.proofs.lemmas.List.{length-take-le}
use Rattle.ht_base.specs.Places.{IsLeast}
use Rattle.ht_people.specs.Refusals.{IsTwiceGroup}
use Rattle.ht_people.proofs.Twice.{member_before, member_first, name_first, none_twice, repeated_within, told, twice_in_front, twice_within}
use Rattle.ht_people.proofs.places.group_places.Goals as goal

pub returns-in-Some-clause-repeated : goal.returns-in-Some-clause-repeated
returns-in-Some-clause-repeated c =
    let groups = c.args.groups.now in
    let alone = rw (c.deref.ensures.value, c.in_ok-names.ensures) at c.in-Ok.ensures.distinct in
    let found = rw c.in-Some.is at c.in_ok-place-in-Ok.ensures.found in
    told (λ (p : ℕ). IsLeast (IsTwiceGroup groups) p) c.in-Some.place (member_first groups c.in-Some.place found alone)

pub returns-in-Some-clause-within : goal.returns-in-Some-clause-within
returns-in-Some-clause-within c =
    let found = rw c.in-Some.is at c.in_ok-place-in-Ok.ensures.found in
    told (λ (p : ℕ). p < length c.args.groups.now) c.in-Some.place (twice_within c.args.groups.now c.in-Some.place found.holds)

pub returns-in-Ok-clause-distinct : goal.returns-in-Ok-clause-distinct
returns-in-Ok-clause-distinct c =
    let alone = rw (c.deref.ensures.value, c.in_ok-names.ensures) at c.in-Ok.ensures.distinct in
    none_twice c.args.groups.now alone (rw c.in-None.is at c.in_ok-place-in-Ok.ensures.none)

pub slice_bounds-first_twice_member-end : goal.slice_bounds-first_twice_member-end
slice_bounds-first_twice_member-end c =
    let least = rw (c.deref.ensures.value, c.in_ok-names.ensures) at (c.in-Err-Repeated.ensures.repeated c.in-Err-Repeated.place c.in-Err-Repeated.field-0-is) in
    let within = repeated_within c.args.groups.now c.in-Err-Repeated.place least.holds in
    sym (length-take-le c.in-Err-Repeated.place c.args.groups.now (omega arith))

pub returns-in-Some-2-clause-repeated : goal.returns-in-Some-2-clause-repeated
returns-in-Some-2-clause-repeated c =
    let groups = c.args.groups.now in
    let least = rw (c.deref.ensures.value, c.in_ok-names.ensures) at (c.in-Err-Repeated.ensures.repeated c.in-Err-Repeated.place c.in-Err-Repeated.field-0-is) in
    let found = rw c.in-Some-2.is at c.in_ok-earlier-in-Err-Repeated.ensures.found in
    told (λ (p : ℕ). IsLeast (IsTwiceGroup groups) p) c.in-Some-2.earlier (member_before groups c.in-Err-Repeated.place c.in-Some-2.earlier found least)

pub returns-in-Some-2-clause-within : goal.returns-in-Some-2-clause-within
returns-in-Some-2-clause-within c =
    let groups = c.args.groups.now in
    let found = rw c.in-Some-2.is at c.in_ok-earlier-in-Err-Repeated.ensures.found in
    told (λ (p : ℕ). p < length groups) c.in-Some-2.earlier (twice_within groups c.in-Some-2.earlier (twice_in_front groups c.in-Err-Repeated.place c.in-Some-2.earlier found.holds))

pub returns-in-Err-Repeated-clause-repeated : goal.returns-in-Err-Repeated-clause-repeated
returns-in-Err-Repeated-clause-repeated c =
    let groups = c.args.groups.now in
    let least = rw (c.deref.ensures.value, c.in_ok-names.ensures) at (c.in-Err-Repeated.ensures.repeated c.in-Err-Repeated.place c.in-Err-Repeated.field-0-is) in
    told (λ (p : ℕ). IsLeast (IsTwiceGroup groups) p) c.in-Err-Repeated.place (name_first groups c.in-Err-Repeated.place (rw c.in-None-2.is at c.in_ok-earlier-in-Err-Repeated.ensures.none) least)

pub returns-in-Err-Repeated-clause-within : goal.returns-in-Err-Repeated-clause-within
returns-in-Err-Repeated-clause-within c =
    let least = rw (c.deref.ensures.value, c.in_ok-names.ensures) at (c.in-Err-Repeated.ensures.repeated c.in-Err-Repeated.place c.in-Err-Repeated.field-0-is) in
    told (λ (p : ℕ). p < length c.args.groups.now) c.in-Err-Repeated.place (repeated_within c.args.groups.now c.in-Err-Repeated.place least.holds)
