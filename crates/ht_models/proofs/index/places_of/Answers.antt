use Rattle.std.proofs.Common.{refl}
use Rattle.ht_base.specs.Places.{IsRepeated}
use Rattle.ht_models.specs.Repeats.{repeats_name}
use Rattle.ht_models.specs.SubTrees.{names_of}
use Rattle.ht_models.proofs.FirstOnes.{IsFound}
use Rattle.ht_models.proofs.LeastOfTwo.{either, neither, only_first, only_second}
use Rattle.ht_models.proofs.index.places_of.Goals as goal

pub returns-in-Ok-None-clause-passes : goal.returns-in-Ok-None-clause-passes
returns-in-Ok-None-clause-passes c =
    let t = c.args.entries.now in
    let distinct = rw (c.deref.ensures.value, c.in_ok-names.ensures) at c.in-Ok-None.ensures.distinct in
    neither (IsRepeated (names_of t)) (IsFound repeats_name t) distinct (rw c.in-Ok-None.is-1 at c.in_ok-inside.ensures)

pub returns-in-Ok-Some-clause-passes : goal.returns-in-Ok-Some-clause-passes
returns-in-Ok-Some-clause-passes c =
    let t = c.args.entries.now in
    let distinct = rw (c.deref.ensures.value, c.in_ok-names.ensures) at c.in-Ok-Some.ensures.distinct in
    λ _. (c.in-Ok-Some.place, refl, only_second (IsRepeated (names_of t)) (IsFound repeats_name t) c.in-Ok-Some.place distinct (rw c.in-Ok-Some.is-1 at c.in_ok-inside.ensures))

pub returns-in-Err-Repeated-None-clause-passes : goal.returns-in-Err-Repeated-None-clause-passes
returns-in-Err-Repeated-None-clause-passes c =
    let t = c.args.entries.now in
    let repeated = rw (c.deref.ensures.value, c.in_ok-names.ensures) at (c.in-Err-Repeated-None.ensures.repeated c.in-Err-Repeated-None.place cc) in
    λ _. (c.in-Err-Repeated-None.place, refl, only_first (IsRepeated (names_of t)) (IsFound repeats_name t) c.in-Err-Repeated-None.place repeated (rw c.in-Err-Repeated-None.is-1 at c.in_ok-inside.ensures))

pub returns-in-Err-Repeated-Some-clause-passes : goal.returns-in-Err-Repeated-Some-clause-passes
returns-in-Err-Repeated-Some-clause-passes c =
    let t = c.args.entries.now in
    let i = c.in-Err-Repeated-Some.place in
    let j = c.in-Err-Repeated-Some.other in
    let repeated = rw (c.deref.ensures.value, c.in_ok-names.ensures) at (c.in-Err-Repeated-Some.ensures.repeated i cc) in
    λ _. (c.min.result, refl, rw c.min.ensures (either (IsRepeated (names_of t)) (IsFound repeats_name t) i j repeated (rw c.in-Err-Repeated-Some.is-1 at c.in_ok-inside.ensures)))
