-- How tasks move between lists, put together task by task.
use Rattle.std.proofs.Common.{◌≡◌, ℕ, ◌+◌, ◌<◌, get_or, length, take, ◌==◌, ◌||◌, ◌&&◌, Bool, true, false, List, [], ◌∷◌, ◌++◌, Result, Ok, Err, OnOk, refl, sym, ap, subst, ◌∙◌, inl, inr, arith, eq-eqb, append-nil}
use Rattle.std.specs.List.{AllByRecursion, list_any}
use Rattle.std.proofs.lemmas.Bool.{cases_eq}
use Rattle.std.proofs.lemmas.Bool.Decides.{nat_tests}
use Rattle.std.proofs.lemmas.List.{append_assoc, take_more}
use Rattle.ht_base.specs.Persons.{has}
use Rattle.ht_base.specs.declared.task_id.TaskId.{TaskId}
use Rattle.ht_index.specs.declared.moves.Move.{Move}
use Rattle.ht_index.specs.Indexes.{is_of}
use Rattle.ht_tree.specs.declared.listed_by.ListedBy.{ListedBy}
use Rattle.ht_tree.specs.declared.row.Row.{Row}
use Rattle.ht_tree.specs.ListedBy.{Adds, AddsOf, AreMoves, AreMovesOf, HaveSameLists, has_task_role, is_in_lists, is_listed, is_of_key, is_person, stands_under}
use Rattle.ht_tree.specs.Rows.{row_at}

-- ---- any moves

pub all_append : {A : Type 0} (P : A → Type 0) (xs ys : List A) → AllByRecursion P xs → AllByRecursion P ys → AllByRecursion P (xs ++ ys)
all_append P [] ys a b = b
all_append P (x ∷ xs) ys a b = (a.0, all_append P xs ys a.1 b)

pub all_of : {A : Type 0} (P Q : A → Type 0) (xs : List A) → ((x : A) → P x → Q x) → AllByRecursion P xs → AllByRecursion Q xs
all_of P Q [] f a = tt
all_of P Q (x ∷ xs) f a = (f x a.0, all_of P Q xs f a.1)

pub any_append : {A : Type 0} (p : A → Bool) (xs ys : List A) → list_any p (xs ++ ys) ≡ (list_any p xs || list_any p ys)
any_append p [] ys = refl
any_append p (x ∷ xs) ys = ap (λ b. p x || b) (any_append p xs ys) ∙ turn (p x) (list_any p xs) (list_any p ys)
  where
    turn : (a b c : Bool) → (a || (b || c)) ≡ ((a || b) || c)
    turn true b c = refl
    turn false b c = refl

pub neither : (a b : Bool) → (a || b) ≡ false → (a ≡ false) × (b ≡ false)
neither true b e = absurd cc
neither false b e = (refl, e)

pub none_of_both : {A : Type 0} (p : A → Bool) (xs ys : List A) → list_any p (xs ++ ys) ≡ false → (list_any p xs ≡ false) × (list_any p ys ≡ false)
none_of_both p xs ys e = neither (list_any p xs) (list_any p ys) (sym (any_append p xs ys) ∙ e)

-- ---- those of some keys

-- none is added
pub adds_none : (task : TaskId) (comes : Bool) (some others : ℕ → Bool) (ms : List Move) → ((key : ℕ) → some key ≡ true → others key ≡ true) → AddsOf task comes some others ms ms
adds_none task comes some others ms all = record { news = []; more = sym (append-nil ms); right = tt; whole = λ key is none. all key is }

-- of these keys and then of those
pub adds_then : (task : TaskId) (comes : Bool) (some more all others : ℕ → Bool) (a b c : List Move) → ((key : ℕ) → all key ≡ (some key || more key)) → AddsOf task comes some others a b → AddsOf task comes more others b c → AddsOf task comes all others a c
adds_then task comes some more all others a b c is first then_ = record {
  news = first.news ++ then_.news;
  more = then_.more ∙ ap (λ l. l ++ then_.news) first.more ∙ append_assoc a first.news then_.news;
  right =
      all_append (λ m. (m.task ≡ task) × (m.comes ≡ comes) × (all m.key ≡ true) × (others m.key ≡ false)) first.news then_.news
      (all_of (λ m. (m.task ≡ task) × (m.comes ≡ comes) × (some m.key ≡ true) × (others m.key ≡ false)) (λ m. (m.task ≡ task) × (m.comes ≡ comes) × (all m.key ≡ true) × (others m.key ≡ false)) first.news (λ m r. (r.0, r.1, is m.key ∙ ap (λ x. x || more m.key) r.2, r.3)) first.right)
      (all_of (λ m. (m.task ≡ task) × (m.comes ≡ comes) × (more m.key ≡ true) × (others m.key ≡ false)) (λ m. (m.task ≡ task) × (m.comes ≡ comes) × (all m.key ≡ true) × (others m.key ≡ false)) then_.news (λ m r. (r.0, r.1, is m.key ∙ ap (λ x. some m.key || x) r.2 ∙ or_true (some m.key), r.3)) then_.right);
  whole = λ key on none.
      let apart = none_of_both (is_of_key key) first.news then_.news none in
      at key (some key) refl (sym (is key) ∙ on) apart.0 apart.1;
}
  where
    or_true : (x : Bool) → (x || true) ≡ true
    or_true true = refl
    or_true false = refl

    at : (key : ℕ) (x : Bool) → some key ≡ x → (some key || more key) ≡ true → list_any (is_of_key key) first.news ≡ false → list_any (is_of_key key) then_.news ≡ false → others key ≡ true
    at key true e on gone also = first.whole key e gone
    at key false e on gone also = then_.whole key (sym (ap (λ x. x || more key) e) ∙ on) also

-- those come who are there now and aren't held, and those go who were and aren't
pub adds_held : (task : TaskId) (was is held : ℕ → Bool) (a b c : List Move) → ((key : ℕ) → held key ≡ true → was key ≡ true) → AddsOf task true is held a b → AddsOf task false was is b c → Adds task was is a c
adds_held task was is held a b c stood come go = record {
  news = come.news ++ go.news;
  more = go.more ∙ ap (λ l. l ++ go.news) come.more ∙ append_assoc a come.news go.news;
  right =
      all_append (λ m. (m.task ≡ task) × (m.comes ≡ is m.key)) come.news go.news
      (all_of (λ m. (m.task ≡ task) × (m.comes ≡ true) × (is m.key ≡ true) × (held m.key ≡ false)) (λ m. (m.task ≡ task) × (m.comes ≡ is m.key)) come.news (λ m r. (r.0, r.1 ∙ sym r.2)) come.right)
      (all_of (λ m. (m.task ≡ task) × (m.comes ≡ false) × (was m.key ≡ true) × (is m.key ≡ false)) (λ m. (m.task ≡ task) × (m.comes ≡ is m.key)) go.news (λ m r. (r.0, r.1 ∙ sym r.3)) go.right);
  whole = λ key none.
      let apart = none_of_both (is_of_key key) come.news go.news none in
      at key (was key) (is key) refl refl apart.0 apart.1;
}
  where
    at : (key : ℕ) (x y : Bool) → was key ≡ x → is key ≡ y → list_any (is_of_key key) come.news ≡ false → list_any (is_of_key key) go.news ≡ false → was key ≡ is key
    at key true y e f gone also = e ∙ sym (go.whole key e also)
    at key false true e f gone also = let no : false ≡ true = sym e ∙ stood key (come.whole key f gone) in absurd cc
    at key false false e f gone also = e ∙ sym f

-- the same, said in another way
pub same_adds : (task : TaskId) (was is was_too is_too : ℕ → Bool) (a b : List Move) → ((key : ℕ) → was key ≡ was_too key) → ((key : ℕ) → is key ≡ is_too key) → Adds task was is a b → Adds task was_too is_too a b
same_adds task was is was_too is_too a b one two adds = record {
  news = adds.news;
  more = adds.more;
  right = all_of (λ m. (m.task ≡ task) × (m.comes ≡ is m.key)) (λ m. (m.task ≡ task) × (m.comes ≡ is_too m.key)) adds.news (λ m r. (r.0, r.1 ∙ two m.key)) adds.right;
  whole = λ key none. sym (one key) ∙ adds.whole key none ∙ two key;
}

-- of the same keys, said in another way
pub same_adds_of : (task : TaskId) (comes : Bool) (some others some_too others_too : ℕ → Bool) (a b : List Move) → ((key : ℕ) → some key ≡ some_too key) → ((key : ℕ) → others key ≡ others_too key) → AddsOf task comes some others a b → AddsOf task comes some_too others_too a b
same_adds_of task comes some others some_too others_too a b one two adds = record {
  news = adds.news;
  more = adds.more;
  right = all_of (λ m. (m.task ≡ task) × (m.comes ≡ comes) × (some m.key ≡ true) × (others m.key ≡ false)) (λ m. (m.task ≡ task) × (m.comes ≡ comes) × (some_too m.key ≡ true) × (others_too m.key ≡ false)) adds.news (λ m r. (r.0, r.1, sym (one m.key) ∙ r.2, sym (two m.key) ∙ r.3)) adds.right;
  whole = λ key on none. sym (two key) ∙ adds.whole key (one key ∙ on) none;
}

pub on_ok : {A E : Type 0} {P Q : Type 0} (r : Result A E) → (P → Q) → OnOk r P → OnOk r Q
on_ok (Ok a) f p = f p
on_ok (Err e) f p = tt

-- ---- persons

-- the owner stands last
pub role_parts : (key : ℕ) (row : Row) → has_task_role key row ≡ (is_in_lists key row || is_person key row.owner)
role_parts key row = at (row.initiator == key) (has key row.stakeholders) (has key row.potential_owners) (is_person key row.owner) (has key row.administrators)
  where
    or_true : (x : Bool) → (x || true) ≡ true
    or_true true = refl
    or_true false = refl

    or_false : (x : Bool) → (x || false) ≡ x
    or_false true = refl
    or_false false = refl

    at : (a b c d e : Bool) → (a || (b || (c || (d || e)))) ≡ ((a || (b || (c || e))) || d)
    at true b c d e = refl
    at false true c d e = refl
    at false false true d e = refl
    at false false false d true = or_true d
    at false false false d false = or_false d

pub same_lists : (row other : Row) → HaveSameLists row other → (key : ℕ) → is_in_lists key row ≡ true → has_task_role key other ≡ true
same_lists row other same key in_ =
    at (other.initiator == key) (has key other.stakeholders) (has key other.potential_owners) (is_person key other.owner) (has key other.administrators)
    (ap (λ n. (other.initiator == key) || (has key other.stakeholders || (has key other.potential_owners || has key n))) (sym same.administrators)
    ∙ ap (λ n. (other.initiator == key) || (has key other.stakeholders || (has key n || has key row.administrators))) (sym same.potential_owners)
    ∙ ap (λ n. (other.initiator == key) || (has key n || (has key row.potential_owners || has key row.administrators))) (sym same.stakeholders)
    ∙ ap (λ n. (n == key) || (has key row.stakeholders || (has key row.potential_owners || has key row.administrators))) (sym same.initiator)
    ∙ in_)
  where
    or_true : (x : Bool) → (x || true) ≡ true
    or_true true = refl
    or_true false = refl

    at : (a b c d e : Bool) → (a || (b || (c || e))) ≡ true → (a || (b || (c || (d || e)))) ≡ true
    at true b c d e is = refl
    at false true c d e is = refl
    at false false true d e is = refl
    at false false false d true is = or_true d
    at false false false d false is = absurd cc

-- one person more of a list
pub has_next : (key : ℕ) (persons : List ℕ) (i : ℕ) (d : ℕ) → i < length persons → has key (take (i + 1) persons) ≡ (has key (take i persons) || (get_or persons i d == key))
has_next key persons i d low =
    ap (has key) (take_more persons i d low) ∙ any_append (λ p. p == key) (take i persons) (get_or persons i d ∷ []) ∙ ap (λ b. has key (take i persons) || b) (or_false (get_or persons i d == key))
  where
    or_false : (x : Bool) → (x || false) ≡ x
    or_false true = refl
    or_false false = refl

-- ---- task by task

-- of one task the key tells whether it moves
pub of_one_key : (task : TaskId) (is : ℕ → Bool) (key n : ℕ) → task.0 ≡ n → (ms : List Move) → AllByRecursion (λ m. (m.task ≡ task) × (m.comes ≡ is m.key)) ms → list_any (is_of key n) ms ≡ false → list_any (is_of_key key) ms ≡ false
of_one_key task is key n e [] all none = refl
of_one_key task is key n e (m ∷ ms) all none =
    let here : m.task.0 ≡ n = ap (λ (t : TaskId). t.0) (all.0).0 ∙ e in
    let apart = neither (is_of key n m) (list_any (is_of key n) ms) none in
    let one : is_of_key key m ≡ false = alone (m.key == key) (m.task.0 == n) (eq-eqb m.task.0 n here) apart.0 in
    ap (λ b. b || list_any (is_of_key key) ms) one ∙ of_one_key task is key n e ms all.1 apart.1
  where
    alone : (x y : Bool) → y ≡ true → (x && y) ≡ false → x ≡ false
    alone true y f g = absurd cc
    alone false y f g = refl

-- another task than the last was put earlier
pub put_earlier : (rows : List Row) (row : Row) (task : TaskId) (n : ℕ) → row.task ≡ task → (task.0 ≡ n → ⊥) → list_any (λ (r : Row). r.task.0 == n) (rows ++ row ∷ []) ≡ true → list_any (λ (r : Row). r.task.0 == n) rows ≡ true
put_earlier rows row task n same other among =
    let last : (row.task.0 == n) ≡ false = ap (λ (t : TaskId). t.0 == n) same ∙ differ task.0 n other in
    go (list_any (λ (r : Row). r.task.0 == n) rows) (row.task.0 == n) last (sym (any_append (λ (r : Row). r.task.0 == n) rows (row ∷ [])) ∙ among)
  where
    differ : (m k : ℕ) → (m ≡ k → ⊥) → (m == k) ≡ false
    differ m k d = grind (arith, nat_tests)

    go : (x y : Bool) → y ≡ false → (x || (y || false)) ≡ true → x ≡ true
    go true y f e = refl
    go false true f e = absurd cc
    go false false f e = absurd cc

module _ (kind : ListedBy) (old new : List Row) where
  pub no_moves : AreMovesOf kind old new [] []
  no_moves = record { right = tt; whole = λ key task none among. absurd cc }

  pub more_moves : (rows : List Row) (row : Row) (task : TaskId) (a b : List Move) (was is : ℕ → Bool) → row.task ≡ task → ((key : ℕ) → was key ≡ is_listed kind key task.0 old) → ((key : ℕ) → is key ≡ is_listed kind key task.0 new) → AreMovesOf kind old new rows a → Adds task was is a b → AreMovesOf kind old new (rows ++ row ∷ []) b
  more_moves rows row task a b was is same before after are adds = record {
    right =
        let P : List Move → Type 0 = λ ms. AllByRecursion (λ m. m.comes ≡ is_listed kind m.key m.task.0 new) ms in
        subst P (sym adds.more)
        (all_append (λ m. m.comes ≡ is_listed kind m.key m.task.0 new) a adds.news are.right
        (all_of (λ m. (m.task ≡ task) × (m.comes ≡ is m.key)) (λ m. m.comes ≡ is_listed kind m.key m.task.0 new) adds.news (λ m r. r.1 ∙ after m.key ∙ ap (λ (t : TaskId). is_listed kind m.key t.0 new) (sym r.0)) adds.right));
    whole = λ key n none among.
        let apart = none_of_both (is_of key n) a adds.news (sym (ap (list_any (is_of key n)) adds.more) ∙ none) in
        elim (cases_eq task.0 n) [
          | inl e ↦
              ap (λ m. is_listed kind key m old) (sym e) ∙ sym (before key) ∙ adds.whole key (of_one_key task is key n e adds.news adds.right apart.1) ∙ after key ∙ ap (λ m. is_listed kind key m new) e
          | inr other ↦ are.whole key n apart.0 (put_earlier rows row task n same other among)
        ];
  }

  -- of all tasks whose rows are put
  pub all_moves : (rows : List Row) (moves : List Move) → ((task : ℕ) → list_any (λ r. r.task.0 == task) rows ≡ false → row_at task new ≡ row_at task old) → AreMovesOf kind old new rows moves → AreMoves kind old new moves
  all_moves rows moves same are = record {
    right = are.right;
    whole = λ key task none. at key task none (list_any (λ (r : Row). r.task.0 == task) rows) refl;
  }
    where
      at : (key task : ℕ) → list_any (is_of key task) moves ≡ false → (b : Bool) → list_any (λ (r : Row). r.task.0 == task) rows ≡ b → is_listed kind key task old ≡ is_listed kind key task new
      at key task none true e = are.whole key task none e
      at key task none false e = ap (λ o. stands_under kind key o) (sym (same task e))
