-- How a doubt is settled.
use Rattle.std.proofs.Common.{◌≡◌, ℕ, Bool, true, false, [], ◌∷◌, ◌++◌, Option, Some, None, ap, sym, ◌∙◌, subst, refl, arith}
use Rattle.ht_base.specs.Records.{RecordOf}
use Rattle.ht_journal.specs.Keeping.{IsKept, doubt_of}
use Rattle.ht_journal.specs.declared.faults.Settled.{Settled}
use Rattle.ht_journal.specs.declared.faults.Settled.TheVariants.{Kept, Dropped, Store}
use Rattle.ht_outside.specs.Causes.{together}
use Rattle.ht_outside.specs.Causes.{Rose}
use Rattle.ht_outside.specs.declared.disk.Disk.{Ghosts}
use Rattle.ht_tree.specs.Plans.{committed}
use Rattle.ht_tree.specs.Tables.{RoomyTables, TablesOf}
use Rattle.ht_desk.specs.declared.desk_state.DeskState.{DeskState}
use Rattle.ht_desk.specs.declared.doubt.Doubt.{Doubt}
use Rattle.ht_desk.specs.Counting.{with_joined}
use Rattle.ht_desk.specs.Keeping.{AreAwaited, Awaits, IsAt}
use Rattle.ht_desk.specs.Records.{bodies_of, spelling}
use Rattle.ht_desk.specs.Replaying.{Applies, TextsOf}
use Rattle.ht_desk.specs.States.{State, is_asking}
use Rattle.ht_desk.specs.Steps.{Settles, with_record}
use Rattle.ht_desk.specs.Steps.Settles.{certain, dropped, joined, undecided}
use Rattle.ht_desk.proofs.Finding.{bodies_push, spelled_push}
use Rattle.ht_desk.proofs.Replayed.{office_push}

module _ {D : Type 0} (d : Ghosts D) (beside : ℕ) (texts : TextsOf) (s : State) (desk new : DeskState) (old now : D) (at : IsAt d beside texts s desk old) where
  -- it ends in some state, and this is answered
  abbrev pub Ends : Bool → Type 0
  Ends answer = (mid : State) × Settles s mid × IsAt d beside texts mid new now × (answer ≡ true → mid.doubt ≡ None) × (answer ≡ false → (r : RecordOf) × (mid.doubt ≡ Some r))

  pub is_certain : s.doubt ≡ None → new ≡ desk → now ≡ old → Ends true
  is_certain none same stays =
      let N : DeskState → Type 0 = λ x. IsAt d beside texts s x now in
      let M : D → Type 0 = λ x. IsAt d beside texts s desk x in
      (s, certain none refl, subst N (sym same) (subst M (sym stays) at), (λ e. none), λ (e : true ≡ false). absurd (cc))

  pub is_dropped : (r : RecordOf) → s.doubt ≡ Some r → IsKept d (bodies_of s.records) new.journal now → doubt_of new.journal ≡ None → new.doubt ≡ None
      → new.tables ≡ desk.tables → new.counts ≡ desk.counts → (new.journal).limit ≡ (desk.journal).limit → d.faults now ≡ d.faults old → Ends true
  is_dropped r is kept sure none same counts limit still =
      let mid : State = record s { doubt = None } in (
        mid,
        dropped r is refl,
        record {
          tables = at.tables ∙ ap (λ (t : RoomyTables). t.tables) (sym same);
          kept = kept;
          doubted = sure;
          awaited = subst (λ (o : Option Doubt). AreAwaited new.tables o None) (sym none) tt;
          failures = at.failures ∙ ap (λ n. together n beside) (sym still);
          limited = at.limited ∙ sym limit;
          counted = at.counted ∙ sym counts;
          spelled = at.spelled;
          sound = at.sound;
          office = at.office;
        },
        (λ e. refl),
        λ (e : true ≡ false). absurd (cc),
      )

  pub has_joined : (r : RecordOf) → s.doubt ≡ Some r → (w : Doubt) → desk.doubt ≡ Some w → IsKept d (bodies_of s.records ++ spelling r ∷ []) new.journal now → doubt_of new.journal ≡ None → new.doubt ≡ None
      → (new.tables).tables ≡ committed (desk.tables).tables w.plan w.at.0 → new.counts ≡ with_joined desk.counts w.asked → (new.journal).limit ≡ (desk.journal).limit → d.faults now ≡ d.faults old → Ends true
  has_joined r is w has kept sure none tables counts limit still =
      let a : Awaits desk.tables w r = subst (λ (o : Option Doubt). AreAwaited desk.tables o (Some r)) has (subst (λ (o : Option RecordOf). AreAwaited desk.tables desk.doubt o) is at.awaited) in
      let u : TablesOf = committed (desk.tables).tables w.plan w.at.0 in
      let on : Applies s.tables r u = subst (λ (t : TablesOf). Applies t r u) (sym at.tables) a.applies in
      let mid : State = record (with_record s r u) { doubt = None } in (
        mid,
        joined r u is on refl,
        record {
          tables = sym tables;
          kept = subst (λ bodies. IsKept d bodies new.journal now) (sym (bodies_push s.records r)) kept;
          doubted = sure;
          awaited = subst (λ (o : Option Doubt). AreAwaited new.tables o None) (sym none) tt;
          failures = at.failures ∙ ap (λ n. together n beside) (sym still);
          limited = at.limited ∙ sym limit;
          counted = ap (λ c. with_joined c (is_asking r)) at.counted ∙ (ap (λ b. with_joined desk.counts b) (sym a.asked) ∙ sym counts);
          spelled = spelled_push s.records r at.spelled a.spelled;
          sound = a.sound;
          office = office_push texts s.records r s.tables u at.office on;
        },
        (λ e. refl),
        λ (e : true ≡ false). absurd (cc),
      )

  pub is_undecided : (r : RecordOf) → s.doubt ≡ Some r → IsKept d (bodies_of s.records) new.journal now → doubt_of new.journal ≡ doubt_of desk.journal → new.doubt ≡ desk.doubt
      → new.tables ≡ desk.tables → new.counts ≡ desk.counts → (new.journal).limit ≡ (desk.journal).limit → Rose (d.faults old) (d.faults now) → Ends false
  is_undecided r is kept doubt same tables counts limit rose =
      let mid : State = record s { faults = together (d.faults now) beside } in (
        mid,
        undecided r is refl (let f = at.failures in omega (arith, rose, f)),
        record {
          tables = at.tables ∙ ap (λ (t : RoomyTables). t.tables) (sym tables);
          kept = kept;
          doubted = doubt ∙ at.doubted;
          awaited = subst (λ (t : RoomyTables). AreAwaited t new.doubt s.doubt) (sym tables) (subst (λ (o : Option Doubt). AreAwaited desk.tables o s.doubt) (sym same) at.awaited);
          failures = refl;
          limited = at.limited ∙ sym limit;
          counted = at.counted ∙ sym counts;
          spelled = at.spelled;
          sound = at.sound;
          office = at.office;
        },
        (λ (e : false ≡ true). absurd (cc)),
        λ e. (r, is),
      )

pub some_awaited : (t : RoomyTables) (w : Doubt) (o : Option RecordOf) → AreAwaited t (Some w) o → (r : RecordOf) × (o ≡ Some r)
some_awaited t w None is = absurd is
some_awaited t w (Some r) is = (r, refl)

pub awaits_some : (t : RoomyTables) (w : Doubt) (o : Option RecordOf) → AreAwaited t (Some w) o → (r : RecordOf) × Awaits t w r
awaits_some t w None is = absurd is
awaits_some t w (Some r) is = (r, is)

pub not_there : (x : Settled) → (x ≡ Kept → ⊥) → (x ≡ Store → ⊥) → x ≡ Dropped
not_there Kept k t = absurd (k refl)
not_there Dropped k t = refl
not_there Store k t = absurd (t refl)
