use Rattle.std.proofs.Common.{◌≡◌, ◌++◌, ◌∷◌, [], ℕ, ◌+◌, ◌-◌, List, Option, IfSome, take, ap, sym, ◌∙◌, refl, arith}
use Rattle.ht_journal.specs.Bodies.{IsNth}
use Rattle.ht_journal.specs.Keeping.{IsKept}
use Rattle.ht_journal.proofs.PublicLaws.{quiet_on, told_same}
use Rattle.ht_desk.specs.declared.fault.OpenFault.{OpenFault}
use Rattle.ht_desk.specs.declared.fault.OpenFault.TheVariants.{Damaged}
use Rattle.ht_desk.specs.Opening.{FailsAt, FailsFirst, FailsNext}
use Rattle.ht_desk.specs.Records.{bodies_of, spelling}
use Rattle.ht_desk.specs.Replaying.{TextsOf, opening_of}
use Rattle.ht_desk.proofs.Coming.{comes_as, comes_since}
use Rattle.ht_desk.proofs.Replayed.{all_of, as_long, first_fails, first_replayed, kept_as, more_replayed, next_fails, told_on}
use Rattle.ht_desk.proofs.opening.replay.Goals as goal

pub returns-in-Err-clause-fault : goal.returns-in-Err-clause-fault
returns-in-Err-clause-fault g c =
    let texts : TextsOf = record { models = c.args.models.now; people = c.args.people.now } in
    let told : Option (List ℕ) = g.D.Disk.gives c.args.disk.now in
    let First : OpenFault → Type 0 = λ fault. (bodies : List (List ℕ)) → IsKept g.D.Disk bodies c.args.journal.now c.args.disk.now → IfSome told (λ _. (at : ℕ) × (body : List ℕ) × IsNth bodies 1 at body × FailsFirst texts at body fault) in
    let Here : OpenFault → Type 0 = λ fault. (bodies : List (List ℕ)) → IsKept g.D.Disk bodies c.args.journal.now c.args.disk.now → IfSome told (λ _. FailsAt texts bodies fault) in
    comes_as First Here _ _ c.in-Err.fault (λ fault is bodies kept. first_fails texts told bodies fault (is bodies kept)) c.in-Err.ensures.fault

pub records-init : goal.records-init
records-init g c =
    let texts : TextsOf = record { models = c.args.models.now; people = c.args.people.now } in
    let told : Option (List ℕ) = g.D.Disk.gives c.args.disk.now in
    let compared = c.in-Ok.ensures.compared in
    let number = c.requires.number in
    let count = c.in-Ok.ensures.same.0 in
    let short = c.in-Ok.ensures.short in
    record {
      number = (omega arith, omega (arith, number, count));
      short = omega (arith, short);
      same = c.in-Ok.ensures.same;
      kept = c.in-Ok.ensures.kept;
      so_far = first_replayed texts (14 + c.in-Ok.size) told (λ bodies. IsKept g.D.Disk bodies c.args.journal.now c.args.disk.now) c.args.tables.now.tables c.requires.begins compared.0 (ap (λ n. 14 + n) compared.1)
          (λ bodies kept. told_on told ((at : ℕ) × IsNth bodies 1 at (spelling (opening_of texts))) (take 1 bodies ≡ spelling (opening_of texts) ∷ []) (compared.2 bodies kept) (λ w. (w.1).bytes));
      quiet = c.in-Ok.ensures.quiet;
      still = c.in-Ok.ensures.still;
    }

pub returns-in-Err-replay_one-clause-fault : goal.returns-in-Err-replay_one-clause-fault
returns-in-Err-replay_one-clause-fault g c =
    let texts : TextsOf = record { models = c.args.models.now; people = c.args.people.now } in
    let told : Option (List ℕ) = g.D.Disk.gives c.args.disk.now in
    let i = c.records.invariant in
    let Next : OpenFault → Type 0 = λ fault. (bodies : List (List ℕ)) → IsKept g.D.Disk bodies c.records.journal c.records.disk
    → IfSome (g.D.Disk.gives c.records.disk) (λ _. (at : ℕ) × (body : List ℕ) × IsNth bodies (c.records.n + 1) at body × FailsNext c.records.tables.tables (c.records.n + 1) at body fault) in
    let Here : OpenFault → Type 0 = λ fault. (bodies : List (List ℕ)) → IsKept g.D.Disk bodies c.args.journal.now c.args.disk.now → IfSome told (λ _. FailsAt texts bodies fault) in
    comes_as Next Here _ _ c.in-Err-replay_one.fault
    (λ fault is bodies kept.
    next_fails texts c.records.n c.records.length told (g.D.Disk.gives c.records.disk) (λ bodies. IsKept g.D.Disk bodies c.args.journal.now c.args.disk.now) c.records.tables.tables i.so_far i.quiet.file (c.records.n + 1) refl fault bodies kept (is bodies (i.kept bodies kept)))
    (comes_since Next _ _ _ c.in-Err-replay_one.fault i.still c.in-Err-replay_one.ensures.fault)

pub records-preserved : goal.records-preserved
records-preserved g c =
    let texts : TextsOf = record { models = c.args.models.now; people = c.args.people.now } in
    let told : Option (List ℕ) = g.D.Disk.gives c.args.disk.now in
    let i = c.records.invariant in
    let applied = c.in-Ok-replay_one.ensures.applied in
    let same = c.in-Ok-replay_one.ensures.same in
    let short = c.in-Ok-replay_one.ensures.short in
    let so_short = i.short in
    let below = c.records-test.true in
    let count = c.count.ensures in
    let count_same = same.0 in
    record {
      number = (omega arith, omega (arith, below, count, count_same));
      short = omega (arith, short, so_short);
      same = (same.0 ∙ i.same.0, same.1 ∙ i.same.1, same.2 ∙ i.same.2, same.3 ∙ i.same.3);
      kept = λ bodies kept. c.in-Ok-replay_one.ensures.kept bodies (i.kept bodies kept);
      so_far = more_replayed texts c.records.n c.records.length told (λ bodies. IsKept g.D.Disk bodies c.args.journal.now c.args.disk.now) c.records.tables.tables c.replay_one.new.tables.tables i.so_far applied.0 applied.1 applied.2
          (c.records.n + 1) (c.records.length + (5 + c.in-Ok-replay_one.size)) refl (ap (λ k. c.records.length + (5 + k)) applied.3)
          (λ bodies kept. told_same told (g.D.Disk.gives c.records.disk) (λ _. take (c.records.n + 1) bodies ≡ take (c.records.n + 1 - 1) bodies ++ spelling applied.0 ∷ []) i.quiet.file (applied.4 bodies (i.kept bodies kept)));
      quiet = quiet_on g.D.Disk c.args.disk.now c.records.disk c.replay_one.new.disk i.quiet c.in-Ok-replay_one.ensures.quiet;
      still = c.in-Ok-replay_one.ensures.still ∙ i.still;
    }

pub returns-then-length-clause-fault : goal.returns-then-length-clause-fault
returns-then-length-clause-fault g c =
    let texts : TextsOf = record { models = c.args.models.now; people = c.args.people.now } in
    let told : Option (List ℕ) = g.D.Disk.gives c.args.disk.now in
    let i = c.records.invariant in
    let test = c.records-test.false in
    let most = i.number.1 in
    let count = c.count.ensures in
    let same = i.same.0 in
    let whole : c.records.n ≡ c.args.journal.now.count = omega (arith, test, most, count, same) in (
      λ bodies kept.
          told_on told (c.args.journal.now.length ≡ c.records.length) (FailsAt texts bodies (Damaged 0))
          (as_long texts c.records.n c.records.length told (λ bodies. IsKept g.D.Disk bodies c.args.journal.now c.args.disk.now) c.records.tables.tables i.so_far c.args.journal.now.count c.args.journal.now.length whole bodies kept kept.count kept.place)
          (λ long. absurd (c.if-length.true (sym (c.length.ensures ∙ (i.same.1 ∙ long))))),
      i.still,
    )

pub returns-clause-replayed : goal.returns-clause-replayed
returns-clause-replayed g c =
    let told : Option (List ℕ) = g.D.Disk.gives c.args.disk.now in
    let i = c.records.invariant in
    let so_far = i.so_far in
    let w = c.requires.kept in
    let test = c.records-test.false in
    let most = i.number.1 in
    let count = c.count.ensures in
    let same = i.same.0 in
    let whole : c.records.n ≡ c.records.journal.count = omega (arith, test, most, count) in
    let counted : c.records.n ≡ c.args.journal.now.count = whole ∙ same in
    let all : (bodies : List (List ℕ)) → IsKept g.D.Disk bodies c.args.journal.now c.args.disk.now → IfSome told (λ _. bodies ≡ bodies_of so_far.records) = λ bodies kept.
    told_on told (take c.records.n bodies ≡ bodies_of so_far.records) (bodies ≡ bodies_of so_far.records) (so_far.front_is bodies kept) (λ front_is. all_of bodies c.records.n (bodies_of so_far.records) (counted ∙ kept.count) front_is) in
    let here = g.D.Disk.gives c.records.disk in (
      so_far.records,
      so_far.office,
      so_far.spelled,
      kept_as g.D.Disk g.met.D.Disk.now_is c.spellings_are_short.ensures.length w.0 so_far.records c.records.journal c.records.disk (i.kept w.0 w.1) so_far.spelled (so_far.count ∙ whole) (so_far.long ∙ (c.if-length.false ∙ c.length.ensures)) here refl
          (told_same here told (λ _. w.0 ≡ bodies_of so_far.records) (sym i.quiet.file) (all w.0 w.1)),
      all,
    )
