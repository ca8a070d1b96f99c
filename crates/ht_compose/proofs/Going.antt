-- An item that is done with all that it puts, each of these with what it puts itself.
use Rattle.std.proofs.Common.{◌≤◌, List, [], ◌∷◌, ◌++◌, map, refl, sym, subst, arith}
use Rattle.ht_base.specs.declared.moment.Moment.{Moment}
use Rattle.ht_compose.specs.declared.item.Item.{Item as Task}
use Rattle.ht_compose.specs.Agenda.{Ends}
use Rattle.ht_compose.specs.Families.{StillThere}
use Rattle.ht_compose.specs.Agenda.Ends.{end}
use Rattle.ht_compose.specs.Items.{Does, Item, Step}
use Rattle.ht_compose.specs.Running.{Acts, Runs, item_of}
use Rattle.ht_compose.specs.Work.{ClosesForGood, work}
use Rattle.ht_compose.proofs.AlwaysEnding.{lighter}
use Rattle.ht_compose.proofs.Determined.{determined}
use Rattle.ht_compose.proofs.Ending.{first_and_rest, one_behind_the_other}
use Rattle.ht_compose.proofs.Standing.{there_before, there_then}
use Rattle.ht_compose.proofs.Stepping.{AreLight, Falls, steps, weight}
use Rattle.ht_models.specs.TreeSizes.{AreSized}
use Rattle.ht_tree.specs.Plans.{Goes, IsPlanOf, PlanOf, planned}
use Rattle.ht_tree.specs.Soundness.{IsSound}
use Rattle.ht_tree.specs.Tables.{TablesOf}
use Rattle.ht_tree.proofs.PublicLaws.{goes_then, stays}

-- Of what the item put these are left. Each is lighter than the item, and where they come to their end,
-- so does the item.
pub record IsGoing (t : TablesOf) (old mid : PlanOf) (at : Moment) (item : Item) (left : List Task) : Type 0 where
  pub goes : Goes t old mid (planned t old) (planned t mid)
  pub sound : IsSound (planned t mid)
  pub there : StillThere (planned t old) (planned t mid)
  pub less : work (planned t mid) ≤ work (planned t old)
  pub light : AreLight (planned t mid) (weight (planned t old) item) (map item_of left)
  pub ends : (v : TablesOf) → Ends (Does at) (planned t mid) (map item_of left) v → Ends (Does at) (planned t old) (item ∷ []) v

pub goes_off : (t : TablesOf) (old mid : PlanOf) (at : Moment) (item : Item) (puts : List Task) → AreSized t.models → IsSound (planned t old) → ClosesForGood item → Acts t old mid at item puts → IsGoing t old mid at item puts
goes_off t old mid at item puts sized sound closes acts =
    let u = planned t old in
    let d = acts.done in
    let s = steps at u item (record { numbered = sound.numbered; sized = sized }) closes in
    let F : Step → Type 0 = λ x. Falls u (weight u item) x in
    let falls = subst F (determined at u item s.done d s.does acts.does) s.falls in
    let to = (acts.goes).to in
    let L : List Item → Type 0 = λ l. AreLight d.tables (weight u item) l in
    let M : TablesOf → Type 0 = λ v. AreLight v (weight u item) (map item_of puts) in
    let S : TablesOf → Type 0 = λ v. IsSound v in
    let T : TablesOf → Type 0 = λ v. StillThere u v in
    let W : TablesOf → Type 0 = λ v. work v ≤ work u in
    record {
      goes = record { from = refl; to = refl; fits = (acts.goes).fits; slot = (acts.goes).slot; marked = (acts.goes).marked };
      sound = subst S (sym to) acts.sound;
      there = subst T (sym to) falls.there;
      less = subst W (sym to) falls.less;
      light = subst M (sym to) (subst L (sym acts.puts_are) falls.light);
      ends = λ v e.
          let E : List Item → Type 0 = λ l. Ends (Does at) d.tables l v in
          let G : TablesOf → Type 0 = λ w. Ends (Does at) w (map item_of puts) v in
          first_and_rest (Does at) u v v item [] d acts.does (subst E acts.puts_are (subst G to e)) end;
    }

pub goes_further : (t : TablesOf) (old mid new : PlanOf) (at : Moment) (item : Item) (put : Task) (rest : List Task) → IsGoing t old mid at item (put ∷ rest) → Runs t mid new at (item_of put ∷ []) → IsGoing t old new at item rest
goes_further t old mid new at item put rest going runs =
    let n = weight (planned t old) item in
    let to = (runs.goes).to in
    let S : TablesOf → Type 0 = λ v. IsSound v in
    let T : TablesOf → Type 0 = λ v. StillThere (planned t mid) v in
    let W : TablesOf → Type 0 = λ v. work v ≤ work (planned t mid) in
    let G : TablesOf → Type 0 = λ v. Goes t old new (planned t old) v in
    let less = subst W (sym to) runs.less in
    let before = going.less in
    record {
      goes = subst G (sym to) (goes_then t old mid new (planned t old) (planned t mid) runs.after going.goes runs.goes);
      sound = subst S (sym to) runs.sound;
      there = there_then (planned t old) (planned t mid) (planned t new) going.there (subst T (sym to) runs.there);
      less = omega (arith, less, before);
      light = lighter (planned t mid) (planned t new) n n (map item_of rest) less (omega arith) (going.light).2;
      ends = λ v e.
          let E : TablesOf → Type 0 = λ w. Ends (Does at) w (map item_of rest) v in
          going.ends v (one_behind_the_other (Does at) (planned t mid) runs.after v (item_of put ∷ []) (map item_of rest) runs.ends (subst E to e));
    }

pub has_gone : (t : TablesOf) (old new : PlanOf) (at : Moment) (item : Item) → IsGoing t old new at item [] → Runs t old new at (item ∷ [])
has_gone t old new at item going = record { after = planned t new; ends = going.ends (planned t new) end; goes = going.goes; sound = going.sound; there = going.there; less = going.less }

-- ---- one item after another

pub runs_none : (t : TablesOf) (p : PlanOf) (at : Moment) → IsPlanOf t p → IsSound (planned t p) → Runs t p p at []
runs_none t p at fit sound = record { after = planned t p; ends = end; goes = stays t p fit; sound = sound; there = there_before (planned t p); less = omega arith }

pub runs_then : (t : TablesOf) (old mid new : PlanOf) (at : Moment) (is js : List Item) → Runs t old mid at is → Runs t mid new at js → Runs t old new at (is ++ js)
runs_then t old mid new at is js first then =
    let to = (first.goes).to in
    let E : TablesOf → Type 0 = λ v. Ends (Does at) v js then.after in
    let T : TablesOf → Type 0 = λ v. StillThere v then.after in
    let W : TablesOf → Type 0 = λ v. work then.after ≤ work v in
    let a = first.less in
    let b = subst W to then.less in
    record {
      after = then.after;
      ends = one_behind_the_other (Does at) (planned t old) first.after then.after is js first.ends (subst E to then.ends);
      goes = goes_then t old mid new (planned t old) first.after then.after first.goes then.goes;
      sound = then.sound;
      there = there_then (planned t old) first.after then.after first.there (subst T to then.there);
      less = omega (arith, a, b);
    }
