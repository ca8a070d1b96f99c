use Rattle.std.proofs.Common.{◌≡◌, ◌<◌, ◌+◌, ℕ, List, [], length, ap, subst, arith}
use Rattle.ht_journal.specs.Keeping.{doubt_of}
use Rattle.ht_journal.specs.Reasons.{HasReason}
use Rattle.ht_journal.specs.declared.limits.TheConstants.{LONGEST_BODY}
use Rattle.ht_journal.specs.declared.faults.AppendRefusal.{AppendRefusal}
use Rattle.ht_journal.specs.declared.faults.AppendRefusal.TheVariants.{Full, TooLong}
use Rattle.ht_journal.specs.declared.state.JournalState.{JournalState}
use Rattle.ht_journal.proofs.PublicLaws.{started}
use Rattle.ht_desk.specs.Replaying.{TextsOf, opening_of}
use Rattle.ht_desk.proofs.Begun.{FindsAtMost, no_doubt, nothing_found}
use Rattle.ht_desk.proofs.beginning.begin.Goals as goal

full_reason : (j : JournalState) (body : List ℕ) (m n : ℕ) (x : AppendRefusal) (at : ℕ) → x ≡ Full at → HasReason j body m n x → j.limit < j.length + 4 + length body + 1
full_reason j body m n x at is reason = let r : HasReason j body m n (Full at) = subst (λ y. HasReason j body m n y) is reason in r.1

long_reason : (j : JournalState) (body : List ℕ) (m n : ℕ) (x : AppendRefusal) → x ≡ TooLong → HasReason j body m n x → LONGEST_BODY < length body
long_reason j body m n x is reason = subst (λ y. HasReason j body m n y) is reason

pub returns-in_err-body-clause-any_moment : goal.returns-in_err-body-clause-any_moment
returns-in_err-body-clause-any_moment g c tells =
    let texts : TextsOf = record { models = c.args.models.now; people = c.args.people.now } in
    let disk = c.args.disk.now in
    started g.D.Disk disk (FindsAtMost texts)
    (λ image left. nothing_found texts (doubt_of c.args.journal.now) image (no_doubt c.args.journal.now c.requires.certain) (c.reads.ensures.images [] c.requires.kept tells image (g.met.D.Disk.only_now disk image tells left)))

pub unreachable-requires : goal.unreachable-requires
unreachable-requires g c =
    let texts : TextsOf = record { models = c.args.models.now; people = c.args.people.now } in
    let small = (c.spellings_are_short.ensures.length (opening_of texts) c.in_ok-body.body.items c.in_ok-body.ensures).1 in
    let size : length c.as_slice.result.now ≡ length c.in_ok-body.body.items = ap length c.as_slice.ensures in
    let over = full_reason c.args.journal.now _ _ _ c.in-Err-Full.field-0 _ c.in-Err-Full.field-0-is c.in-Err-Full.ensures.reason in
    let long = c.reads.ensures.length [] c.requires.kept in
    let limit = c.requires.limit in
    omega (arith, small, size, over, long, limit)

pub unreachable-requires-in-Err-TooLong : goal.unreachable-requires-in-Err-TooLong
unreachable-requires-in-Err-TooLong g c =
    let texts : TextsOf = record { models = c.args.models.now; people = c.args.people.now } in
    let small = (c.spellings_are_short.ensures.length (opening_of texts) c.in_ok-body.body.items c.in_ok-body.ensures).1 in
    let size : length c.as_slice.result.now ≡ length c.in_ok-body.body.items = ap length c.as_slice.ensures in
    let big = long_reason c.args.journal.now _ _ _ c.in-Err-TooLong.field-0 c.in-Err-TooLong.field-0-is c.in-Err-TooLong.ensures.reason in
    omega (arith, small, size, big)
