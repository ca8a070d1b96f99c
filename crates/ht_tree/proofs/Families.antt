-- Families of tasks, when rows are changed or put behind.
use Rattle.std.proofs.Common.{eq-eqb, length-append, ◌≡◌, ℕ, ◌+◌, ◌-◌, ◌≤◌, ◌==◌, zero, suc, Bool, true, false, ◌||◌, ◌&&◌, if◌then◌else◌, List, [], ◌∷◌, ◌++◌, length, map, Option, Some, None, IfSome, ◌⊎◌, inl, inr, refl, sym, ap, ◌∙◌, subst, arith}
use Rattle.std.specs.Prelude.{option_map, slice_get, slice_set}
use Rattle.std.specs.Option.{option_and_then, option_map_or}
use Rattle.std.proofs.lemmas.Bool.{eqb-true}
use Rattle.std.proofs.lemmas.Option.{slice_get-map, slice_get_within}
use Rattle.ht_base.proofs.PublicLaws.{found_there}
use Rattle.ht_base.specs.declared.task_id.TaskId.{TaskId}
use Rattle.ht_models.specs.Model.{ModelOf, names}
use Rattle.ht_entries.specs.SubEntries.{SubEntry}
use Rattle.ht_models.specs.TreeSizes.{entries_size, entry_size, size_at}
use Rattle.ht_tree.specs.declared.row.Row.{Row}
use Rattle.ht_base.specs.State.{is_final}
use Rattle.ht_tree.specs.Families.{AreFamilies, HaveEndedBelow, IsNewSub, IsOfEntry, is_made, is_of_entry, model_of_entry, parent_at, to_come, to_come_from, to_come_in, to_come_of}
use Rattle.ht_tree.specs.Plans.{IsNext, Replaces}
use Rattle.ht_tree.specs.Rows.{model_in, put_in, row_at}
use Rattle.ht_tree.specs.Sizes.{size_under, top_size, total_size}
use Rattle.ht_tree.proofs.Counting.{total_push}
use Rattle.ht_tree.proofs.Putting.{put_old, row_at-put_in}

-- ---- rows that stand in the same families

-- where a row stands
abbrev pub standing : Row → ℕ × (Option (TaskId × ℕ) × ℕ)
standing row = (row.task.0, (row.parent, row.model))

parent_of : (x y : Row) → standing x ≡ standing y → x.parent ≡ y.parent
parent_of x y h = ap (λ (b : ℕ × (Option (TaskId × ℕ) × ℕ)). b.1.0) h

model_of : (x y : Row) → standing x ≡ standing y → x.model ≡ y.model
model_of x y h = ap (λ (b : ℕ × (Option (TaskId × ℕ) × ℕ)). b.1.1) h

task_of : (x y : Row) → standing x ≡ standing y → x.task.0 ≡ y.task.0
task_of x y h = ap (λ (b : ℕ × (Option (TaskId × ℕ) × ℕ)). b.0) h

abbrev pub Alike : List Row → List Row → Type 0
Alike xs ys = map standing xs ≡ map standing ys

pub made_alike : (xs ys : List Row) → Alike xs ys → (task e : ℕ) → is_made task e xs ≡ is_made task e ys
made_alike [] [] a task e = refl
made_alike [] (y ∷ ys) a task e = absurd cc
made_alike (x ∷ xs) [] a task e = absurd cc
made_alike (x ∷ xs) (y ∷ ys) a task e =
    let h : standing x ≡ standing y = cc in
    let r : Alike xs ys = cc in
    let one : is_of_entry task e x ≡ is_of_entry task e y = ap (λ (o : Option (TaskId × ℕ)). option_map_or (λ (p : TaskId × ℕ). (p.0.0 == task) && (p.1 == e)) o false) (parent_of x y h) in
    ap (λ (b : Bool). b || is_made task e xs) one ∙ ap (λ (b : Bool). is_of_entry task e y || b) (made_alike xs ys r task e)

from_alike : (models : List ModelOf) (xs ys : List Row) → Alike xs ys → (task place : ℕ) (entries : List SubEntry) → to_come_from models xs task place entries ≡ to_come_from models ys task place entries
from_alike models xs ys a task place [] = refl
from_alike models xs ys a task place (entry ∷ entries) =
    let rest = from_alike models xs ys a task (suc place) entries in
    let one : (if is_made task place xs then 0 else entry_size models entry) ≡ (if is_made task place ys then 0 else entry_size models entry) = ap (λ (b : Bool). if b then 0 else entry_size models entry) (made_alike xs ys a task place) in
    omega arith

of_alike : (models : List ModelOf) (xs ys : List Row) → Alike xs ys → (x y : Row) → standing x ≡ standing y → to_come_of models xs x ≡ to_come_of models ys y
of_alike models xs ys a x y h =
    ap (λ (k : ℕ). option_map_or (λ (m : ModelOf). to_come_from models xs x.task.0 0 m.subs) (slice_get models k) 0) (model_of x y h)
    ∙ ap (λ (n : ℕ). option_map_or (λ (m : ModelOf). to_come_from models xs n 0 m.subs) (model_in models y) 0) (task_of x y h)
    ∙ go (model_in models y)
  where
    go : (o : Option ModelOf) → option_map_or (λ (m : ModelOf). to_come_from models xs y.task.0 0 m.subs) o 0 ≡ option_map_or (λ (m : ModelOf). to_come_from models ys y.task.0 0 m.subs) o 0
    go None = refl
    go (Some m) = from_alike models xs ys a y.task.0 0 m.subs

in_alike : (models : List ModelOf) (xs ys : List Row) → Alike xs ys → (ms ns : List Row) → Alike ms ns → to_come_in models xs ms ≡ to_come_in models ys ns
in_alike models xs ys a [] [] b = refl
in_alike models xs ys a [] (n ∷ ns) b = absurd cc
in_alike models xs ys a (m ∷ ms) [] b = absurd cc
in_alike models xs ys a (m ∷ ms) (n ∷ ns) b =
    let h : standing m ≡ standing n = cc in
    let r : Alike ms ns = cc in
    let one = of_alike models xs ys a m n h in
    let rest = in_alike models xs ys a ms ns r in
    omega arith

pub to_come_alike : (models : List ModelOf) (xs ys : List Row) → Alike xs ys → to_come models xs ≡ to_come models ys
to_come_alike models xs ys a = in_alike models xs ys a xs ys a

-- ---- what stays of them

same_size : (models : List ModelOf) (x y : Row) (p q : Option (TaskId × ℕ)) → p ≡ q → x.model ≡ y.model → size_under models x p ≡ size_under models y q
same_size models x y None None e m = ap (λ (k : ℕ). size_at models k) m
same_size models x y None (Some q) e m = absurd cc
same_size models x y (Some p) None e m = absurd cc
same_size models x y (Some p) (Some q) e m = refl

pub length_alike : (xs ys : List Row) → Alike xs ys → length xs ≡ length ys
length_alike [] [] a = refl
length_alike [] (y ∷ ys) a = absurd cc
length_alike (x ∷ xs) [] a = absurd cc
length_alike (x ∷ xs) (y ∷ ys) a = ap (λ (n : ℕ). suc n) (length_alike xs ys (let r : Alike xs ys = cc in r))

pub total_alike : (models : List ModelOf) (xs ys : List Row) → Alike xs ys → total_size models xs ≡ total_size models ys
total_alike models [] [] a = refl
total_alike models [] (y ∷ ys) a = absurd cc
total_alike models (x ∷ xs) [] a = absurd cc
total_alike models (x ∷ xs) (y ∷ ys) a =
    let h : standing x ≡ standing y = cc in
    let r : Alike xs ys = cc in
    let one = same_size models x y x.parent y.parent (parent_of x y h) (model_of x y h) in
    let rest = total_alike models xs ys r in
    omega arith

pub at_alike : (xs ys : List Row) → Alike xs ys → (task : ℕ) → option_map standing (row_at task xs) ≡ option_map standing (row_at task ys)
at_alike xs ys a zero = refl
at_alike [] [] a (suc i) = refl
at_alike [] (y ∷ ys) a (suc i) = absurd cc
at_alike (x ∷ xs) [] a (suc i) = absurd cc
at_alike (x ∷ xs) (y ∷ ys) a (suc zero) = ap (λ (b : ℕ × (Option (TaskId × ℕ) × ℕ)). Some b) (let h : standing x ≡ standing y = cc in h)
at_alike (x ∷ xs) (y ∷ ys) a (suc (suc i)) = at_alike xs ys (let r : Alike xs ys = cc in r) (suc i)

-- the row of the same task
pub there_alike : (xs ys : List Row) → Alike xs ys → (task : ℕ) (y : Row) → row_at task ys ≡ Some y → (x : Row) × (row_at task xs ≡ Some x) × (standing x ≡ standing y)
there_alike xs ys a task y at = go (row_at task xs) refl
  where
    go : (o : Option Row) → row_at task xs ≡ o → (x : Row) × (row_at task xs ≡ Some x) × (standing x ≡ standing y)
    go None is = absurd (none_some (sym (ap (λ (o : Option Row). option_map standing o) is) ∙ at_alike xs ys a task ∙ ap (λ (o : Option Row). option_map standing o) at))
      where
        none_some : option_map standing None ≡ option_map standing (Some y) → ⊥
        none_some e = cc
    go (Some x) is =
        let same : Some (standing x) ≡ Some (standing y) = sym (ap (λ (o : Option Row). option_map standing o) is) ∙ at_alike xs ys a task ∙ ap (λ (o : Option Row). option_map standing o) at in
        (x, is, cc)

pub parent_alike : (xs ys : List Row) → Alike xs ys → (task : ℕ) → parent_at task xs ≡ parent_at task ys
parent_alike xs ys a task = of_standing (row_at task xs) (row_at task ys) (at_alike xs ys a task)
  where
    of_standing : (o r : Option Row) → option_map standing o ≡ option_map standing r → option_and_then (λ (x : Row). x.parent) o ≡ option_and_then (λ (x : Row). x.parent) r
    of_standing None None e = refl
    of_standing None (Some y) e = absurd cc
    of_standing (Some x) None e = absurd cc
    of_standing (Some x) (Some y) e = parent_of x y (let h : standing x ≡ standing y = cc in h)

entry_alike : (models : List ModelOf) (xs ys : List Row) → Alike xs ys → (x y : Row) → standing x ≡ standing y → IfSome x.parent (IsOfEntry models xs (model_in models x)) → IfSome y.parent (IsOfEntry models ys (model_in models y))
entry_alike models xs ys a x y h e =
    let P : Option (TaskId × ℕ) → Type 0 = λ o. IfSome o (IsOfEntry models ys (model_in models y)) in
    let Q : ℕ → Type 0 = λ m. IfSome x.parent (IsOfEntry models ys (slice_get models m)) in
    subst P (parent_of x y h) (subst Q (model_of x y h) (go x.parent e))
  where
    go : (o : Option (TaskId × ℕ)) → IfSome o (IsOfEntry models xs (model_in models x)) → IfSome o (IsOfEntry models ys (model_in models x))
    go None e = tt
    go (Some p) e =
        let there = there_alike ys xs (sym a) p.0.0 e.above e.there in
        record {
          above = there.0;
          there = there.1;
          named = ap (λ (k : ℕ). model_of_entry (slice_get models k) p.1) (model_of there.0 e.above there.2) ∙ e.named;
        }

pub families_alike : (models : List ModelOf) (xs ys : List Row) → AreFamilies models xs → Alike xs ys → HaveEndedBelow ys → AreFamilies models ys
families_alike models xs ys f a ended = record {
  entries = λ task row at. let there = there_alike xs ys a task row at in entry_alike models xs ys a there.0 row there.2 (f.entries task there.0 there.1);
  made_once = λ b c p first second. f.made_once b c p (parent_alike xs ys a b ∙ first) (parent_alike xs ys a c ∙ second);
  ended_below = ended;
  counted =
      let long = length_alike xs ys a in
      let come = to_come_alike models xs ys a in
      let total = total_alike models xs ys a in
      let counted = f.counted in
      omega arith;
}

-- ---- a row in the place of another of the same family

-- of each task in both whether it has ended
abbrev pub EndAlike : List Row → List Row → Type 0
EndAlike xs ys = (task : ℕ) → option_map (λ r. is_final r.state) (row_at task xs) ≡ option_map (λ r. is_final r.state) (row_at task ys)

-- such a task has ended in the one where it has in the other
final_alike : (xs ys : List Row) → EndAlike xs ys → (task : ℕ) (x y : Row) → row_at task xs ≡ Some x → row_at task ys ≡ Some y → is_final x.state ≡ is_final y.state
final_alike xs ys ends task x y at there =
    let same : Some (is_final x.state) ≡ Some (is_final y.state) = sym (ap (λ (o : Option Row). option_map (λ (r : Row). is_final r.state) o) at) ∙ ends task ∙ ap (λ (o : Option Row). option_map (λ (r : Row). is_final r.state) o) there in
    cc

pub ended_alike : (xs ys : List Row) → Alike xs ys → EndAlike xs ys → HaveEndedBelow xs → HaveEndedBelow ys
ended_alike xs ys a ends f task row above p at parent there final =
    let x = there_alike xs ys a task row at in
    let z = there_alike xs ys a p.0.0 above there in
    sym (final_alike xs ys ends task x.0 row x.1 at)
    ∙ f task x.0 z.0 p x.1 (parent_of x.0 row x.2 ∙ parent) z.1 (final_alike xs ys ends p.0.0 z.0 above z.1 there ∙ final)

alike_set : (rows : List Row) (i : ℕ) (old row : Row) → slice_get rows i ≡ Some old → standing old ≡ standing row → Alike rows (slice_set rows i row)
alike_set [] i old row at h = absurd cc
alike_set (r ∷ rows) zero old row at h = let same : r ≡ old = cc in ap (λ (b : ℕ × (Option (TaskId × ℕ) × ℕ)). b ∷ map standing rows) (ap standing same ∙ h)
alike_set (r ∷ rows) (suc i) old row at h = ap (λ (l : List (ℕ × (Option (TaskId × ℕ) × ℕ))). standing r ∷ l) (alike_set rows i old row at h)

replaced_at : (rows : List Row) (row : Row) (place : Replaces rows row) (n : ℕ) → row.task.0 ≡ n → row_at n rows ≡ Some place.before → standing place.before ≡ standing row → Alike rows (put_in rows row)
replaced_at rows row place zero e at h = absurd cc
replaced_at rows row place (suc i) e at h =
    let within = slice_get_within rows i place.before at in
    let old : put_in rows row ≡ slice_set rows (row.task.0 - 1) row = put_old rows row (omega arith) in
    let index : row.task.0 - 1 ≡ i = omega arith in
    let P : List Row → Type 0 = λ l. Alike rows l in
    subst P (sym (old ∙ ap (λ (k : ℕ). slice_set rows k row) index)) (alike_set rows i place.before row at h)

pub alike_put : (rows : List Row) (row : Row) (place : Replaces rows row) → (place.before).task.0 ≡ row.task.0 → Alike rows (put_in rows row)
alike_put rows row place number =
    let parent = place.parent in
    let model = place.model in
    let same : standing place.before ≡ standing row = cc in
    replaced_at rows row place row.task.0 refl place.there same

end_put : (rows : List Row) (row : Row) (place : Replaces rows row) → IsNext rows row → is_final (place.before).state ≡ is_final row.state → EndAlike rows (put_in rows row)
end_put rows row place next same task = go (row.task.0 == task) refl ∙ ap (λ (o : Option Row). option_map (λ (r : Row). is_final r.state) o) (sym (row_at-put_in rows row task next))
  where
    go : (b : Bool) → (row.task.0 == task) ≡ b → option_map (λ (r : Row). is_final r.state) (row_at task rows) ≡ option_map (λ (r : Row). is_final r.state) (if b then Some row else row_at task rows)
    go true is =
        let at : row_at task rows ≡ Some place.before = sym (ap (λ (k : ℕ). row_at k rows) (eqb-true row.task.0 task is)) ∙ place.there in
        ap (λ (o : Option Row). option_map (λ (r : Row). is_final r.state) o) at ∙ ap (λ (b : Bool). Some b) same
    go false is = refl

pub families_put : (models : List ModelOf) (rows : List Row) (row : Row) (place : Replaces rows row) → AreFamilies models rows → (place.before).task.0 ≡ row.task.0 → IsNext rows row → is_final (place.before).state ≡ is_final row.state → AreFamilies models (put_in rows row)
families_put models rows row place f number next same =
    let a = alike_put rows row place number in
    families_alike models rows (put_in rows row) f a (ended_alike rows (put_in rows row) a (end_put rows row place next same) f.ended_below)

-- ---- a row behind the others

made_push : (task e : ℕ) (rows : List Row) (row : Row) → is_made task e (rows ++ row ∷ []) ≡ (is_made task e rows || is_of_entry task e row)
made_push task e [] row = last (is_of_entry task e row)
  where
    last : (b : Bool) → (b || false) ≡ b
    last true = refl
    last false = refl
made_push task e (x ∷ rows) row = ap (λ (b : Bool). is_of_entry task e x || b) (made_push task e rows row) ∙ assoc (is_of_entry task e x)
  where
    assoc : (a : Bool) → (a || (is_made task e rows || is_of_entry task e row)) ≡ ((a || is_made task e rows) || is_of_entry task e row)
    assoc true = refl
    assoc false = refl

head_le : (a b : Bool) (n : ℕ) → (if a || b then 0 else n) ≤ (if a then 0 else n)
head_le true b n = omega arith
head_le false true n = omega arith
head_le false false n = omega arith

from_le : (models : List ModelOf) (rows : List Row) (row : Row) (task place : ℕ) (entries : List SubEntry) → to_come_from models (rows ++ row ∷ []) task place entries ≤ to_come_from models rows task place entries
from_le models rows row task place [] = omega arith
from_le models rows row task place (entry ∷ entries) =
    let h = head_le (is_made task place rows) (is_of_entry task place row) (entry_size models entry) in
    let i = from_le models rows row task (suc place) entries in
    rw (made_push task place rows row) (omega (arith, h, i))

of_le : (models : List ModelOf) (rows : List Row) (row x : Row) → to_come_of models (rows ++ row ∷ []) x ≤ to_come_of models rows x
of_le models rows row x = go (model_in models x)
  where
    go : (o : Option ModelOf) → option_map_or (λ (m : ModelOf). to_come_from models (rows ++ row ∷ []) x.task.0 0 m.subs) o 0 ≤ option_map_or (λ (m : ModelOf). to_come_from models rows x.task.0 0 m.subs) o 0
    go None = omega arith
    go (Some m) = from_le models rows row x.task.0 0 m.subs

in_le : (models : List ModelOf) (rows : List Row) (row : Row) (more : List Row) → to_come_in models (rows ++ row ∷ []) more ≤ to_come_in models rows more
in_le models rows row [] = omega arith
in_le models rows row (x ∷ more) = let a = of_le models rows row x in let b = in_le models rows row more in omega (arith, a, b)

pub in_push : (models : List ModelOf) (all more : List Row) (row : Row) → to_come_in models all (more ++ row ∷ []) ≡ to_come_in models all more + to_come_of models all row
in_push models all [] row = omega arith
in_push models all (x ∷ more) row = let h = in_push models all more row in omega (arith, h)

-- of an entry that is made by the row

pub of_itself : (task e : ℕ) (row : Row) (id : TaskId) → row.parent ≡ Some (id, e) → id.0 ≡ task → is_of_entry task e row ≡ true
of_itself task e row id p same =
    ap (λ (o : Option (TaskId × ℕ)). option_map_or (λ (q : TaskId × ℕ). (q.0.0 == task) && (q.1 == e)) o false) p
    ∙ ap (λ (b : Bool). b && (e == e)) (eq-eqb id.0 task same) ∙ eq-eqb e e refl

head_gone : (a b : Bool) (n : ℕ) → a ≡ false → b ≡ true → (if a || b then 0 else n) + n ≤ (if a then 0 else n)
head_gone true b n p q = absurd cc
head_gone false true n p q = omega arith
head_gone false false n p q = absurd cc

from_less : (models : List ModelOf) (rows : List Row) (row : Row) (task e k j : ℕ) (entry : SubEntry) (entries : List SubEntry) → is_of_entry task e row ≡ true → is_made task e rows ≡ false → slice_get entries j ≡ Some entry → k + j ≡ e → to_come_from models (rows ++ row ∷ []) task k entries + entry_size models entry ≤ to_come_from models rows task k entries
from_less models rows row task e k j entry [] of made at is = absurd cc
from_less models rows row task e k zero entry (x ∷ entries) of made at is =
    let i : k ≡ e = omega arith in
    let n : is_made task k rows ≡ false = ap (λ (a : ℕ). is_made task a rows) i ∙ made in
    let q : is_of_entry task k row ≡ true = ap (λ (a : ℕ). is_of_entry task a row) i ∙ of in
    let h = head_gone (is_made task k rows) (is_of_entry task k row) (entry_size models x) n q in
    let l = from_le models rows row task (suc k) entries in
    let same : x ≡ entry = cc in
    let z : entry_size models entry ≡ entry_size models x = ap (λ (y : SubEntry). entry_size models y) (sym same) in
    rw (made_push task k rows row) (omega (arith, h, l, z))
from_less models rows row task e k (suc j) entry (x ∷ entries) of made at is =
    let h = head_le (is_made task k rows) (is_of_entry task k row) (entry_size models x) in
    let l = from_less models rows row task e (suc k) j entry entries of made at (omega arith) in
    rw (made_push task k rows row) (omega (arith, h, l))

pub of_less : (models : List ModelOf) (rows : List Row) (row above : Row) (m : ModelOf) (e : ℕ) (entry : SubEntry) → model_in models above ≡ Some m → is_of_entry above.task.0 e row ≡ true → is_made above.task.0 e rows ≡ false → slice_get m.subs e ≡ Some entry → to_come_of models (rows ++ row ∷ []) above + entry_size models entry ≤ to_come_of models rows above
of_less models rows row above m e entry known of made at = rw known (from_less models rows row above.task.0 e 0 e entry m.subs of made at (omega arith))

pub in_less : (models : List ModelOf) (rows : List Row) (row above : Row) (n i : ℕ) (more : List Row) → to_come_of models (rows ++ row ∷ []) above + n ≤ to_come_of models rows above → slice_get more i ≡ Some above → to_come_in models (rows ++ row ∷ []) more + n ≤ to_come_in models rows more
in_less models rows row above n i [] h at = absurd cc
in_less models rows row above n zero (x ∷ more) h at =
    let e : above ≡ x = cc in
    let P : Row → Type 0 = λ y. to_come_of models (rows ++ row ∷ []) y + n ≤ to_come_of models rows y in
    let g = subst P e h in
    let b = in_le models rows row more in
    omega (arith, g, b)
in_less models rows row above n (suc i) (x ∷ more) h at =
    let a = of_le models rows row x in
    let b = in_less models rows row above n i more h at in
    omega (arith, a, b)

-- what is to come of a new row is at most what its model's entries count
from_small : (models : List ModelOf) (rows : List Row) (task place : ℕ) (entries : List SubEntry) → to_come_from models rows task place entries ≤ entries_size models entries
from_small models rows task place [] = omega arith
from_small models rows task place (entry ∷ entries) = let h = here (is_made task place rows) in let i = from_small models rows task (suc place) entries in omega (arith, h, i)
  where
    here : (b : Bool) → (if b then 0 else entry_size models entry) ≤ entry_size models entry
    here true = omega arith
    here false = omega arith

pub new_small : (models : List ModelOf) (rows : List Row) (row : Row) (m : ModelOf) → model_in models row ≡ Some m → m.size ≡ 1 + entries_size models m.subs → to_come_of models rows row + 1 ≤ size_at models row.model
new_small models rows row m known counted = rw known (let small = from_small models rows row.task.0 0 m.subs in omega (arith, small, counted))

-- ---- which rows are there then

pub no_row : (task : ℕ) (row : Row) → row_at task [] ≡ Some row → ⊥
no_row zero row at = cc
no_row (suc i) row at = cc

pub behind_is : (rows : List Row) (row r : Row) (task : ℕ) → row_at task (rows ++ row ∷ []) ≡ Some r → ((row_at task rows ≡ Some r) ⊎ ((task ≡ length rows + 1) × (row ≡ r)))
behind_is rows row r zero at = cc
behind_is [] row r (suc zero) at = let same : row ≡ r = cc in inr (omega arith, same)
behind_is [] row r (suc (suc i)) at = cc
behind_is (x ∷ rows) row r (suc zero) at = inl at
behind_is (x ∷ rows) row r (suc (suc i)) at = elim (behind_is rows row r (suc i) at) [
  | inl h ↦ inl h
  | inr h ↦ inr (let e = h.0 in omega arith, h.1)
]

pub still_there : (rows : List Row) (row r : Row) (task : ℕ) → row_at task rows ≡ Some r → row_at task (rows ++ row ∷ []) ≡ Some r
still_there rows row r zero at = cc
still_there [] row r (suc i) at = absurd (no_row (suc i) r at)
still_there (x ∷ rows) row r (suc zero) at = at
still_there (x ∷ rows) row r (suc (suc i)) at = still_there rows row r (suc i) at

-- the row of a parent
row_of_parent : (rows : List Row) (task : ℕ) (p : TaskId × ℕ) → parent_at task rows ≡ Some p → (r : Row) × (row_at task rows ≡ Some r) × (r.parent ≡ Some p)
row_of_parent rows task p at = go (row_at task rows) refl at
  where
    go : (o : Option Row) → row_at task rows ≡ o → option_and_then (λ (x : Row). x.parent) o ≡ Some p → (r : Row) × (row_at task rows ≡ Some r) × (r.parent ≡ Some p)
    go None is e = absurd cc
    go (Some r) is e = (r, is, e)

parent_of_row : (rows : List Row) (task : ℕ) (r : Row) (p : TaskId × ℕ) → row_at task rows ≡ Some r → r.parent ≡ Some p → parent_at task rows ≡ Some p
parent_of_row rows task r p at parent = ap (λ (o : Option Row). option_and_then (λ (x : Row). x.parent) o) at ∙ parent

-- an entry that has a sub task is made
made_at : (rows : List Row) (i : ℕ) (r : Row) (task e : ℕ) → slice_get rows i ≡ Some r → is_of_entry task e r ≡ true → is_made task e rows ≡ true
made_at [] i r task e at of = absurd cc
made_at (x ∷ rows) zero r task e at of =
    let same : r ≡ x = cc in
    ap (λ (b : Bool). b || is_made task e rows) (ap (λ (y : Row). is_of_entry task e y) (sym same) ∙ of)
made_at (x ∷ rows) (suc i) r task e at of = either (is_of_entry task e x) (made_at rows i r task e at of)
  where
    either : (b : Bool) → is_made task e rows ≡ true → (b || is_made task e rows) ≡ true
    either true h = refl
    either false h = h

made_by : (rows : List Row) (task : ℕ) (p : TaskId × ℕ) → parent_at task rows ≡ Some p → is_made p.0.0 p.1 rows ≡ true
made_by rows zero p at = absurd cc
made_by rows (suc i) p at = let r = row_of_parent rows (suc i) p at in made_at rows i r.0 p.0.0 p.1 r.1 (of_itself p.0.0 p.1 r.0 p.0 r.2 refl)

-- an entry stays what it is
entry_behind : (models : List ModelOf) (rows : List Row) (row : Row) (model : Option ModelOf) (o : Option (TaskId × ℕ)) → IfSome o (IsOfEntry models rows model) → IfSome o (IsOfEntry models (rows ++ row ∷ []) model)
entry_behind models rows row model None e = tt
entry_behind models rows row model (Some p) e = record { above = e.above; there = still_there rows row e.above p.0.0 e.there; named = e.named }

-- the row of a parent was there
above_there : (models : List ModelOf) (rows : List Row) (row r above : Row) (p : TaskId × ℕ) → IfSome r.parent (IsOfEntry models rows (model_in models r)) → r.parent ≡ Some p → row_at p.0.0 (rows ++ row ∷ []) ≡ Some above → row_at p.0.0 rows ≡ Some above
above_there models rows row r above p e parent at =
    let P : Option (TaskId × ℕ) → Type 0 = λ o. IfSome o (IsOfEntry models rows (model_in models r)) in
    let f : IsOfEntry models rows (model_in models r) p = subst P parent e in
    let same : Some f.above ≡ Some above = sym (still_there rows row f.above p.0.0 f.there) ∙ at in
    f.there ∙ same

-- ---- a top task behind the others

no_parent : (rows : List Row) (row : Row) → row.parent ≡ None → (task : ℕ) (p : TaskId × ℕ) → parent_at task (rows ++ row ∷ []) ≡ Some p → parent_at task rows ≡ Some p
no_parent rows row top task p at =
    let r = row_of_parent (rows ++ row ∷ []) task p at in
    elim (behind_is rows row r.0 task r.1) [
      | inl h ↦ parent_of_row rows task r.0 p h r.2
      | inr h ↦ absurd (none_some (sym top ∙ ap (λ (x : Row). x.parent) h.1 ∙ r.2))
    ]
  where
    none_some : {A : Type 0} {a : A} → None ≡ Some a → ⊥
    none_some e = cc

pub families_push_top : (models : List ModelOf) (rows : List Row) (row : Row) → AreFamilies models rows → row.parent ≡ None → to_come_of models (rows ++ row ∷ []) row + 1 ≤ top_size models row → AreFamilies models (rows ++ row ∷ [])
families_push_top models rows row f top small = record {
  entries = λ task r at. elim (behind_is rows row r task at) [
    | inl h ↦ entry_behind models rows row (model_in models r) r.parent (f.entries task r h)
    | inr h ↦
        let P : Option (TaskId × ℕ) → Type 0 = λ o. IfSome o (IsOfEntry models (rows ++ row ∷ []) (model_in models r)) in
        subst P (sym top ∙ ap (λ (x : Row). x.parent) h.1) tt
  ];
  made_once = λ a b p x y. f.made_once a b p (no_parent rows row top a p x) (no_parent rows row top b p y);
  ended_below = λ task r above p at parent there final. elim (behind_is rows row r task at) [
    | inl h ↦ f.ended_below task r above p h parent (above_there models rows row r above p (f.entries task r h) parent there) final
    | inr h ↦ let none : None ≡ Some p = sym top ∙ ap (λ (x : Row). x.parent) h.1 ∙ parent in absurd cc
  ];
  counted =
      let long = length-append rows (row ∷ []) in
      let come = in_push models (rows ++ row ∷ []) rows row in
      let less = in_le models rows row rows in
      let total = total_push models rows row in
      let counted = f.counted in
      omega arith;
}

-- ---- a sub task behind the others

module _ (models : List ModelOf) (rows : List Row) (row : Row) (p : TaskId × ℕ) (f : AreFamilies models rows) (parent : row.parent ≡ Some p) (new : IsNewSub models rows row.model p) where
  of_new_entry : IsOfEntry models (rows ++ row ∷ []) (model_in models row) p
  of_new_entry =
      let there : slice_get (names models) row.model ≡ Some (new.entry).model = found_there (new.entry).model (names models) row.model new.named in
      record {
        above = new.above;
        there = still_there rows row new.above p.0.0 new.there;
        named = rw (new.known, new.listed) (sym there ∙ slice_get-map (λ (m : ModelOf). m.name) models row.model);
      }

  -- an entry of an earlier row is another one
  is_other : (task : ℕ) (q : TaskId × ℕ) → parent_at task rows ≡ Some q → row.parent ≡ Some q → ⊥
  is_other task q at same =
      let alike : p ≡ q = let e : Some p ≡ Some q = sym parent ∙ same in cc in
      let made : is_made p.0.0 p.1 rows ≡ true = ap (λ (x : TaskId × ℕ). is_made x.0.0 x.1 rows) alike ∙ made_by rows task q at in
      let e : false ≡ true = sym new.not_made ∙ made in cc

  once : (a b : ℕ) (q : TaskId × ℕ) → parent_at a (rows ++ row ∷ []) ≡ Some q → parent_at b (rows ++ row ∷ []) ≡ Some q → a ≡ b
  once a b q x y =
      let r = row_of_parent (rows ++ row ∷ []) a q x in
      let s = row_of_parent (rows ++ row ∷ []) b q y in
      elim (behind_is rows row r.0 a r.1) [
        | inl h ↦ elim (behind_is rows row s.0 b s.1) [
          | inl k ↦ f.made_once a b q (parent_of_row rows a r.0 q h r.2) (parent_of_row rows b s.0 q k s.2)
          | inr k ↦ absurd (is_other a q (parent_of_row rows a r.0 q h r.2) (ap (λ (x : Row). x.parent) k.1 ∙ s.2))
        ]
        | inr h ↦ elim (behind_is rows row s.0 b s.1) [
          | inl k ↦ absurd (is_other b q (parent_of_row rows b s.0 q k s.2) (ap (λ (x : Row). x.parent) h.1 ∙ r.2))
          | inr k ↦ h.0 ∙ sym k.0
        ]
      ]

  -- its parent hasn't ended
  goes_on : (q : TaskId × ℕ) (above : Row) → row.parent ≡ Some q → row_at q.0.0 (rows ++ row ∷ []) ≡ Some above → is_final above.state ≡ true → ⊥
  goes_on q above same there final =
      let alike : p ≡ q = let e : Some p ≡ Some q = sym parent ∙ same in cc in
      let at : row_at p.0.0 (rows ++ row ∷ []) ≡ Some above = ap (λ (x : TaskId × ℕ). row_at x.0.0 (rows ++ row ∷ [])) alike ∙ there in
      let one : Some new.above ≡ Some above = sym (still_there rows row new.above p.0.0 new.there) ∙ at in
      let state : is_final (new.above).state ≡ is_final above.state = let e : new.above ≡ above = cc in ap (λ (x : Row). is_final x.state) e in
      let e : false ≡ true = sym new.going_on ∙ state ∙ final in cc

  no_top : top_size models row ≡ 0
  no_top = ap (λ (o : Option (TaskId × ℕ)). size_under models row o) parent

  less_to_come : (n : ℕ) → n ≡ p.0.0 → (new.above).task.0 ≡ p.0.0 → row_at n rows ≡ Some new.above → to_come_in models (rows ++ row ∷ []) rows + size_at models row.model ≤ to_come_in models rows rows
  less_to_come zero e number at = absurd cc
  less_to_come (suc i) e number at =
      let of : is_of_entry (new.above).task.0 p.1 row ≡ true = of_itself (new.above).task.0 p.1 row p.0 parent (sym number) in
      let made : is_made (new.above).task.0 p.1 rows ≡ false = ap (λ (k : ℕ). is_made k p.1 rows) number ∙ new.not_made in
      let size : entry_size models new.entry ≡ size_at models row.model = ap (λ (o : Option ℕ). option_map_or (size_at models) o 0) new.named in
      let P : ℕ → Type 0 = λ n. to_come_in models (rows ++ row ∷ []) rows + n ≤ to_come_in models rows rows in
      subst P size (in_less models rows row new.above (entry_size models new.entry) i rows (of_less models rows row new.above new.of_model p.1 new.entry new.known of made new.listed) at)

  pub families_push_sub : (new.above).task.0 ≡ p.0.0 → to_come_of models (rows ++ row ∷ []) row + 1 ≤ size_at models row.model → AreFamilies models (rows ++ row ∷ [])
  families_push_sub number small = record {
    entries = λ task r at. elim (behind_is rows row r task at) [
      | inl h ↦ entry_behind models rows row (model_in models r) r.parent (f.entries task r h)
      | inr h ↦
          let P : Row → Type 0 = λ x. IfSome x.parent (IsOfEntry models (rows ++ row ∷ []) (model_in models x)) in
          let Q : Option (TaskId × ℕ) → Type 0 = λ o. IfSome o (IsOfEntry models (rows ++ row ∷ []) (model_in models row)) in
          subst P h.1 (subst Q (sym parent) of_new_entry)
    ];
    made_once = once;
    ended_below = λ task r above q at under there final. elim (behind_is rows row r task at) [
      | inl h ↦ f.ended_below task r above q h under (above_there models rows row r above q (f.entries task r h) under there) final
      | inr h ↦ absurd (goes_on q above (ap (λ (x : Row). x.parent) h.1 ∙ under) there final)
    ];
    counted =
        let long = length-append rows (row ∷ []) in
        let come = in_push models (rows ++ row ∷ []) rows row in
        let less = less_to_come p.0.0 refl number new.there in
        let total = total_push models rows row in
        let counted = f.counted in
        let none = no_top in
        omega arith;
  }
