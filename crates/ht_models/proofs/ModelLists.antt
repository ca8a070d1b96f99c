-- Models read one entry after another, and the first entry that has an expression which is refused.
use Rattle.std.proofs.Common.{◌≡◌, ℕ, ◌≤◌, zero, suc, List, [], ◌∷◌, ◌++◌, length, map, Option, Some, None, sym, ◌∙◌, subst, refl, arith, true}
use Rattle.std.specs.Prelude.{slice_get}
use Rattle.std.specs.List.{AllZip, flat_map}
use Rattle.std.proofs.lemmas.List.{append-nil, length-map}
use Rattle.std.proofs.lemmas.Option.{slice_get_within}
use Rattle.ht_base.specs.Places.{IsLeast}
use Rattle.ht_base.specs.declared.kind.Kind.TheVariants.{Int, Truth}
use Rattle.ht_expr.specs.Kinds.{Declared}
use Rattle.ht_expr.specs.Trees.{integer, nobody, truth}
use Rattle.ht_models.specs.declared.model.Model.{Model}
use Rattle.ht_entries.specs.Deadlines.{DeadlineText, EscalationText}
use Rattle.ht_models.specs.Expressions.{Asked, HasRefused, IsRefused, One, asked, assignment, declared, expression, of_deadline, of_escalation, of_finish}
use Rattle.ht_entries.specs.Finishes.{FinishText}
use Rattle.ht_models.specs.Model.{DeadlineOf, EscalationOf, FinishOf, ModelOf, names}
use Rattle.ht_entries.specs.ModelEntries.{ModelEntry}
use Rattle.ht_models.specs.Reading.{AreModels, IsDeadline, IsEscalation, IsFinish, IsModel}
use Rattle.ht_models.specs.Refusals.{IsUnreadable}
use Rattle.ht_models.specs.Shown.{model_of}
use Rattle.ht_models.specs.SubTrees.{names_of}
use Rattle.ht_models.proofs.Among.{neither, one_left, one_right, none_zip}
use Rattle.ht_models.proofs.Spellings.{if_any_not_refused, one_if_any, one_or, or_not_refused}
use Rattle.ht_models.proofs.Zips.{length_zip, one_zip}

-- ---- the models of a text are one list

module _ (kinds : Declared) where
  one_escalation : (e : EscalationText) (x y : EscalationOf) → IsEscalation kinds e x → IsEscalation kinds e y → x ≡ y
  one_escalation e x y a b =
      let name = a.name ∙ sym b.name in
      let when = one_or kinds (expression Truth) (truth true) e.when x.when y.when a.when b.when in
      let notify = one_if_any kinds assignment e.notify x.notify y.notify a.notify b.notify in
      let reassign = one_if_any kinds assignment e.reassign x.reassign y.reassign a.reassign b.reassign in
      λ i. record { name = name i; when = when i; notify = notify i; reassign = reassign i }

  one_deadline : (d : DeadlineText) (x y : DeadlineOf) → IsDeadline kinds d x → IsDeadline kinds d y → x ≡ y
  one_deadline d x y a b =
      let name = a.name ∙ sym b.name in
      let kind = a.kind ∙ sym b.kind in
      let period = a.period ∙ sym b.period in
      let at = a.at ∙ sym b.at in
      let part = a.part ∙ sym b.part in
      let escalations = one_zip (IsEscalation kinds) one_escalation d.escalations x.escalations y.escalations a.escalations b.escalations in
      λ i. record { name = name i; kind = kind i; period = period i; at = at i; part = part i; escalations = escalations i }

  one_finish : (f : FinishText) (x y : FinishOf) → IsFinish kinds f x → IsFinish kinds f y → x ≡ y
  one_finish f x y a b =
      let when = one_if_any kinds (expression Truth) f.when x.when y.when a.when b.when in
      let settings = a.settings ∙ sym b.settings in
      λ i. record { when = when i; settings = settings i }

one_model : (m : ModelEntry) (x y : ModelOf) → IsModel m x → IsModel m y → x.size ≡ y.size → x ≡ y
one_model m x y a b size =
    let kinds = declared m in
    let name = a.name ∙ sym b.name in
    let priority = one_or kinds (expression Int) (integer 5) m.priority x.priority y.priority a.priority b.priority in
    let skipable = a.skipable ∙ sym b.skipable in
    let owner_required = a.owner_required ∙ sym b.owner_required in
    let delegation = a.delegation ∙ sym b.delegation in
    let delegatees = one_if_any kinds assignment m.delegatees x.delegatees y.delegatees a.delegatees b.delegatees in
    let potential_owners = one_or kinds assignment nobody m.potential_owners x.potential_owners y.potential_owners a.potential_owners b.potential_owners in
    let excluded_owners = one_or kinds assignment nobody m.excluded_owners x.excluded_owners y.excluded_owners a.excluded_owners b.excluded_owners in
    let administrators = one_if_any kinds assignment m.administrators x.administrators y.administrators a.administrators b.administrators in
    let stakeholders = one_if_any kinds assignment m.stakeholders x.stakeholders y.stakeholders a.stakeholders b.stakeholders in
    let composition = a.composition ∙ sym b.composition in
    let instantiation = a.instantiation ∙ sym b.instantiation in
    let completion = a.completion ∙ sym b.completion in
    let input = a.input ∙ sym b.input in
    let output = a.output ∙ sym b.output in
    let subs = a.subs ∙ sym b.subs in
    let deadlines = one_zip (IsDeadline kinds) (one_deadline kinds) m.deadlines x.deadlines y.deadlines a.deadlines b.deadlines in
    let finishes = one_zip (IsFinish kinds) (one_finish kinds) m.finishes x.finishes y.finishes a.finishes b.finishes in
    λ i. record {
      name = name i;
      priority = priority i;
      skipable = skipable i;
      owner_required = owner_required i;
      delegation = delegation i;
      delegatees = delegatees i;
      potential_owners = potential_owners i;
      excluded_owners = excluded_owners i;
      administrators = administrators i;
      stakeholders = stakeholders i;
      composition = composition i;
      instantiation = instantiation i;
      completion = completion i;
      input = input i;
      output = output i;
      subs = subs i;
      deadlines = deadlines i;
      finishes = finishes i;
      size = size i;
    }

-- of the same sizes, place by place
one_sized : (t : List ModelEntry) (ms ns : List ModelOf) (size : ℕ → ℕ) → AllZip IsModel t ms → AllZip IsModel t ns → ((place : ℕ) (x : ModelOf) → slice_get ms place ≡ Some x → x.size ≡ size place) → ((place : ℕ) (x : ModelOf) → slice_get ns place ≡ Some x → x.size ≡ size place) → ms ≡ ns
one_sized [] [] [] size a b p q = refl
one_sized [] [] (n ∷ ns) size a b p q = absurd b
one_sized [] (m ∷ ms) ns size a b p q = absurd a
one_sized (e ∷ t) [] ns size a b p q = absurd a
one_sized (e ∷ t) (m ∷ ms) [] size a b p q = absurd b
one_sized (e ∷ t) (m ∷ ms) (n ∷ ns) size a b p q =
    let first = one_model e m n a.0 b.0 (p 0 m refl ∙ sym (q 0 n refl)) in
    let others = one_sized t ms ns (λ place. size (suc place)) a.1 b.1 (λ place. p (suc place)) (λ place. q (suc place)) in
    λ i. first i ∷ others i

pub one_list : (t : List ModelEntry) (ms ns : List ModelOf) → AreModels t ms → AreModels t ns → ms ≡ ns
one_list t ms ns a b = one_sized t ms ns _ a.each b.each a.sizes b.sizes

-- ---- a model with a text that is refused

module _ (m : ModelEntry) (kinds : Declared) (are : kinds ≡ declared m) where
  abbrev P : Asked × List ℕ → Type 0
  P = IsRefused (declared m)

  pub by_delegatees : (given : Option (List ℕ)) → given ≡ m.delegatees → One (IsRefused kinds) (asked assignment given) → HasRefused m
  by_delegatees given same one = let here : One P (asked assignment m.delegatees) = rw (are, same) at one in search (one_left P, one_right P) depth 9

  pub by_potential_owners : (given : Option (List ℕ)) → given ≡ m.potential_owners → One (IsRefused kinds) (asked assignment given) → HasRefused m
  by_potential_owners given same one = let here : One P (asked assignment m.potential_owners) = rw (are, same) at one in search (one_left P, one_right P) depth 9

  pub by_excluded_owners : (given : Option (List ℕ)) → given ≡ m.excluded_owners → One (IsRefused kinds) (asked assignment given) → HasRefused m
  by_excluded_owners given same one = let here : One P (asked assignment m.excluded_owners) = rw (are, same) at one in search (one_left P, one_right P) depth 9

  pub by_administrators : (given : Option (List ℕ)) → given ≡ m.administrators → One (IsRefused kinds) (asked assignment given) → HasRefused m
  by_administrators given same one = let here : One P (asked assignment m.administrators) = rw (are, same) at one in search (one_left P, one_right P) depth 9

  pub by_stakeholders : (given : Option (List ℕ)) → given ≡ m.stakeholders → One (IsRefused kinds) (asked assignment given) → HasRefused m
  by_stakeholders given same one = let here : One P (asked assignment m.stakeholders) = rw (are, same) at one in search (one_left P, one_right P) depth 9

  pub by_deadlines : (given : List DeadlineText) → given ≡ m.deadlines → One (IsRefused kinds) (flat_map of_deadline given) → HasRefused m
  by_deadlines given same one = let here : One P (flat_map of_deadline m.deadlines) = rw (are, same) at one in search (one_left P, one_right P) depth 9

  pub by_finishes : (given : List FinishText) → given ≡ m.finishes → One (IsRefused kinds) (flat_map of_finish given) → HasRefused m
  by_finishes given same one = let here : One P (flat_map of_finish m.finishes) = rw (are, same) at one in search (one_left P, one_right P) depth 9

-- ---- what was read is not refused

module _ (kinds : Declared) where
  escalation_not_refused : (e : EscalationText) (x : EscalationOf) → IsEscalation kinds e x → One (IsRefused kinds) (of_escalation e) → ⊥
  escalation_not_refused e x is =
      let P = IsRefused kinds in
      neither P (asked (expression Truth) e.when ++ asked assignment e.notify) (asked assignment e.reassign)
      (neither P (asked (expression Truth) e.when) (asked assignment e.notify) (or_not_refused kinds (expression Truth) (truth true) e.when x.when is.when) (if_any_not_refused kinds assignment e.notify x.notify is.notify))
      (if_any_not_refused kinds assignment e.reassign x.reassign is.reassign)

  deadline_not_refused : (d : DeadlineText) (x : DeadlineOf) → IsDeadline kinds d x → One (IsRefused kinds) (of_deadline d) → ⊥
  deadline_not_refused d x is = none_zip (IsRefused kinds) of_escalation (IsEscalation kinds) escalation_not_refused d.escalations x.escalations is.escalations

  finish_not_refused : (f : FinishText) (x : FinishOf) → IsFinish kinds f x → One (IsRefused kinds) (of_finish f) → ⊥
  finish_not_refused f x is = if_any_not_refused kinds (expression Truth) f.when x.when is.when

read_not_refused : (m : ModelEntry) (x : ModelOf) → IsModel m x → HasRefused m → ⊥
read_not_refused m x is =
    let kinds = declared m in
    let P = IsRefused kinds in
    neither P _ _ (neither P _ _ (neither P _ _ (neither P _ _ (neither P _ _ (neither P _ _ (neither P _ _
    (or_not_refused kinds (expression Int) (integer 5) m.priority x.priority is.priority)
    (if_any_not_refused kinds assignment m.delegatees x.delegatees is.delegatees))
    (or_not_refused kinds assignment nobody m.potential_owners x.potential_owners is.potential_owners))
    (or_not_refused kinds assignment nobody m.excluded_owners x.excluded_owners is.excluded_owners))
    (if_any_not_refused kinds assignment m.administrators x.administrators is.administrators))
    (if_any_not_refused kinds assignment m.stakeholders x.stakeholders is.stakeholders))
    (none_zip P of_deadline (IsDeadline kinds) (deadline_not_refused kinds) m.deadlines x.deadlines is.deadlines))
    (none_zip P of_finish (IsFinish kinds) (finish_not_refused kinds) m.finishes x.finishes is.finishes)

-- each of the entries that were read is readable
read_before : (front rest : List ModelEntry) (ms : List ModelOf) (place : ℕ) → AllZip IsModel front ms → IsUnreadable (front ++ rest) place → length front ≤ place
read_before [] rest ms place all bad = omega arith
read_before (e ∷ front) rest [] place all bad = absurd all
read_before (e ∷ front) rest (m ∷ ms) zero all bad = absurd (here bad)
  where
    here : IsUnreadable (e ∷ front ++ rest) zero → ⊥
    here (f, at, refused) = let same : e ≡ f = cc in read_not_refused e m all.0 (subst HasRefused (sym same) refused)
read_before (e ∷ front) rest (m ∷ ms) (suc place) all bad = let low = read_before front rest ms place all.1 bad in omega arith

slice_get_behind : (front : List ModelEntry) (e : ModelEntry) (rest : List ModelEntry) → slice_get (front ++ e ∷ rest) (length front) ≡ Some e
slice_get_behind [] e rest = refl
slice_get_behind (f ∷ front) e rest = slice_get_behind front e rest

-- the entry behind those that were read is the first
pub first_unreadable : (front : List ModelEntry) (e : ModelEntry) (rest : List ModelEntry) (ms : List ModelOf) → AllZip IsModel front ms → HasRefused e → IsLeast (IsUnreadable (front ++ e ∷ rest)) (length front)
first_unreadable front e rest ms all refused = record {
  holds = (e, slice_get_behind front e rest, refused);
  least = λ place bad. read_before front (e ∷ rest) ms place all bad;
}

-- where all were read there is none
pub none_unreadable : (t : List ModelEntry) (ms : List ModelOf) (place : ℕ) → AllZip IsModel t ms → IsUnreadable t place → ⊥
none_unreadable t ms place all bad =
    let low = read_before t [] ms place all (subst (λ (t : List ModelEntry). IsUnreadable t place) (sym (append-nil t)) bad) in
    let within = slice_get_within t place bad.0 bad.1 in
    absurd (omega arith)

-- ---- the sizes of models, one behind another

pub each_push : (P : ℕ → ModelOf → Type 0) (ms : List ModelOf) (m : ModelOf) → ((place : ℕ) (x : ModelOf) → slice_get ms place ≡ Some x → P place x) → P (length ms) m → (place : ℕ) (x : ModelOf) → slice_get (ms ++ m ∷ []) place ≡ Some x → P place x
each_push P [] m each last zero x at = let same : m ≡ x = cc in subst (P 0) same last
each_push P [] m each last (suc place) x at = let none : None ≡ Some x = at in absurd (cc)
each_push P (y ∷ ms) m each last zero x at = each zero x at
each_push P (y ∷ ms) m each last (suc place) x at = each_push (λ n. P (suc n)) ms m (λ n. each (suc n)) last place x at

-- ---- the models that the code keeps

pub same_length : (t : List ModelEntry) (ms : List Model) → AllZip IsModel t (map model_of ms) → length t ≡ length ms
same_length t ms all = length_zip IsModel t (map model_of ms) all ∙ length-map ms model_of

-- as those of the text
pub same_names : (t : List ModelEntry) (models : List ModelOf) → AllZip IsModel t models → names_of t ≡ names models
same_names [] [] all = refl
same_names [] (x ∷ xs) all = absurd all
same_names (m ∷ t) [] all = absurd all
same_names (m ∷ t) (x ∷ xs) all = λ i. sym all.0.name i ∷ same_names t xs all.1 i
