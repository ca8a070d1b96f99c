-- The index of tasks, as they come and go.
use Rattle.std.proofs.Common.{◌≡◌, ℕ, ◌==◌, Bool, true, false, cond, List, [], ◌∷◌, ◌++◌, map, length, append_assoc, Option, Some, None, Result, Ok, Err, OnOk, OnErr, refl, sym, ap, subst, ◌∙◌, inl, inr, arith}
use Rattle.std.specs.Ordering.{is_eq, nat_cmp}
use Rattle.std.specs.BTreeMap as tree
use Rattle.std.proofs.lemmas.Bool.{cases_eq, cases_lt}
use Rattle.std.proofs.lemmas.Bool.Decides.{nat_tests}
use Rattle.std.proofs.lemmas.List.{append-nil, length-map, map_push}
use Rattle.ht_tree.specs.declared.index.Put.{Put}
use Rattle.ht_tree.specs.KeptIndex.{Indexes, links, tasks_in}
use Rattle.ht_tree.specs.Places.{last_place}
use Rattle.ht_tree.proofs.Places.{last_push, snoc_same}

at_key : (m n : ℕ) → is_eq (nat_cmp m n) ≡ (m == n)
at_key m n = elim (cases_lt m n) [
  | inl l ↦ grind (arith, nat_tests)
  | inr g ↦ elim (cases_eq m n) [ inl e ↦ grind (arith, nat_tests) | inr d ↦ grind (arith, nat_tests) ]
]

same_number : (n : ℕ) → (n == n) ≡ true
same_number n = grind (arith, nat_tests)

-- ---- one more row

-- the index with this place at the task of one more row
pub pushed : (ts : List ℕ) (t : ℕ) (m n : tree.BTreeMap ℕ ℕ) → ((task : ℕ) → tree.get nat_cmp m task ≡ last_place task ts) → ((task : ℕ) → tree.get nat_cmp n task ≡ cond (is_eq (nat_cmp t task)) (Some (length ts)) (tree.get nat_cmp m task)) → (task : ℕ) → tree.get nat_cmp n task ≡ last_place task (ts ++ t ∷ [])
pushed ts t m n found put task =
    put task
    ∙ ap (λ (b : Bool). cond b (Some (length ts)) (tree.get nat_cmp m task)) (at_key t task)
    ∙ ap (λ (o : Option ℕ). cond (t == task) (Some (length ts)) o) (found task)
    ∙ sym (last_push task ts t)

pub links_push : (front ts : List ℕ) (t : ℕ) → links front (ts ++ t ∷ []) ≡ links front ts ++ last_place t (front ++ ts) ∷ []
links_push front [] t = ap (λ l. last_place t l ∷ []) (sym (append-nil front))
links_push front (x ∷ ts) t = ap (λ l. last_place x front ∷ l) (links_push (front ++ x ∷ []) ts t ∙ ap (λ l. links (front ++ x ∷ []) ts ++ last_place t l ∷ []) (append_assoc front (x ∷ []) ts))

-- ---- one row less

pub popped : (ts : List ℕ) (t : ℕ) (before : Option ℕ) (m n : tree.BTreeMap ℕ ℕ) → ((task : ℕ) → tree.get nat_cmp m task ≡ last_place task (ts ++ t ∷ [])) → before ≡ last_place t ts → ((task : ℕ) → tree.get nat_cmp n task ≡ cond (is_eq (nat_cmp t task)) before (tree.get nat_cmp m task)) → (task : ℕ) → tree.get nat_cmp n task ≡ last_place task ts
popped ts t before m n found link put task =
    put task
    ∙ ap (λ (b : Bool). cond b before (tree.get nat_cmp m task)) (at_key t task)
    ∙ ap (λ (o : Option ℕ). cond (t == task) before o) (found task ∙ last_push task ts t)
    ∙ elim (cases_eq t task) [
      | inl e ↦ let is : (t == task) ≡ true = rw e (same_number task) in rw is (link ∙ ap (λ k. last_place k ts) e)
      | inr d ↦ let is : (t == task) ≡ false = grind (arith, nat_tests) in rw is refl
    ]

-- the task of the last row is in the index, so to write there takes no memory
pub is_there : (ts : List ℕ) (t : ℕ) (o : Option ℕ) → o ≡ last_place t (ts ++ t ∷ []) → o ≡ None → ⊥
is_there ts t o found none =
    let some : last_place t (ts ++ t ∷ []) ≡ Some (length ts) = last_push t ts t ∙ ap (λ (b : Bool). cond b (Some (length ts)) (last_place t ts)) (same_number t) in
    let e : None ≡ Some (length ts) = sym none ∙ found ∙ some in
    cc

pub written : {E : Type 0} (r : Result (Option ℕ) E) (m n : tree.BTreeMap ℕ ℕ) (k v : ℕ) → OnOk r (tree.Updates nat_cmp m n k (Some v)) → OnErr r (tree.get nat_cmp m k ≡ None) → (tree.get nat_cmp m k ≡ None → ⊥) → (task : ℕ) → tree.get nat_cmp n task ≡ cond (is_eq (nat_cmp k task)) (Some v) (tree.get nat_cmp m task)
written (Ok o) m n k v ok err there = ok.0
written (Err e) m n k v ok err there = absurd (there err)

-- ---- puts and their index

tasks_push : (puts : List Put) (x : Put) → tasks_in (puts ++ x ∷ []) ≡ tasks_in puts ++ x.task ∷ []
tasks_push puts x = map_push (λ (p : Put). p.task) puts x

pub tasks_long : (puts : List Put) → length (tasks_in puts) ≡ length puts
tasks_long puts = length-map puts (λ (p : Put). p.task)

index_at : (m : tree.BTreeMap ℕ ℕ) (puts news : List Put) → news ≡ puts → Indexes m puts → Indexes m news
index_at m puts news e i = let P : List Put → Type 0 = λ l. Indexes m l in subst P (sym e) i

pub index_push : (puts : List Put) (x : Put) (news : List Put) (m n : tree.BTreeMap ℕ ℕ) → news ≡ puts ++ x ∷ [] → ((task : ℕ) → tree.get nat_cmp m task ≡ last_place task (tasks_in puts)) → map (λ p. p.before) puts ≡ links [] (tasks_in puts) → x.before ≡ last_place x.task (tasks_in puts) → ((task : ℕ) → tree.get nat_cmp n task ≡ cond (is_eq (nat_cmp x.task task)) (Some (length puts)) (tree.get nat_cmp m task)) → Indexes n news
index_push puts x news m n is found linked before put =
    let ts = tasks_in puts in
    let t = x.task in
    let placed : (task : ℕ) → tree.get nat_cmp n task ≡ cond (is_eq (nat_cmp t task)) (Some (length ts)) (tree.get nat_cmp m task) = λ task. put task ∙ ap (λ (k : ℕ). cond (is_eq (nat_cmp t task)) (Some k) (tree.get nat_cmp m task)) (sym (tasks_long puts)) in
    index_at n (puts ++ x ∷ []) news is (record {
      found = λ task. pushed ts t m n found placed task ∙ ap (λ (l : List ℕ). last_place task l) (sym (tasks_push puts x));
      linked =
          map_push (λ (p : Put). p.before) puts x
          ∙ ap (λ (l : List (Option ℕ)). l ++ x.before ∷ []) linked
          ∙ ap (λ (o : Option ℕ). links [] ts ++ o ∷ []) before
          ∙ sym (links_push [] ts t)
          ∙ ap (λ (l : List ℕ). links [] l) (sym (tasks_push puts x));
    })

pub popped_there : (front : List Put) (x : Put) (olds : List Put) (m : tree.BTreeMap ℕ ℕ) → olds ≡ front ++ x ∷ [] → ((task : ℕ) → tree.get nat_cmp m task ≡ last_place task (tasks_in olds)) → tree.get nat_cmp m x.task ≡ None → ⊥
popped_there front x olds m is found =
    is_there (tasks_in front) x.task (tree.get nat_cmp m x.task) (found x.task ∙ ap (λ (l : List Put). last_place x.task (tasks_in l)) is ∙ ap (λ (l : List ℕ). last_place x.task l) (tasks_push front x))

pub index_pop : (front : List Put) (x : Put) (olds : List Put) (m n : tree.BTreeMap ℕ ℕ) → olds ≡ front ++ x ∷ [] → ((task : ℕ) → tree.get nat_cmp m task ≡ last_place task (tasks_in olds)) → map (λ p. p.before) olds ≡ links [] (tasks_in olds) → ((task : ℕ) → tree.get nat_cmp n task ≡ cond (is_eq (nat_cmp x.task task)) x.before (tree.get nat_cmp m task)) → Indexes n front
index_pop front x olds m n is found linked put =
    let ts = tasks_in front in
    let t = x.task in
    let tasks : tasks_in olds ≡ ts ++ t ∷ [] = ap (λ (l : List Put). tasks_in l) is ∙ tasks_push front x in
    let both = snoc_same (map (λ (p : Put). p.before) front) (links [] ts) x.before (last_place t ts) (
    sym (map_push (λ (p : Put). p.before) front x) ∙ ap (λ (l : List Put). map (λ (p : Put). p.before) l) (sym is) ∙ linked ∙ ap (λ (l : List ℕ). links [] l) tasks ∙ links_push [] ts t
    ) in
    record {
      found = popped ts t x.before m n (λ task. found task ∙ ap (λ (l : List ℕ). last_place task l) tasks) both.1 put;
      linked = both.0;
    }
