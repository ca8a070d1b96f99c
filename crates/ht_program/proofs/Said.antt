-- What words say is one.
use Rattle.std.proofs.Common.{◌≡◌, ◌∙◌, ℕ, ◌<◌, ◌-◌, ◌^◌, List, ◌∷◌, codes, false, Option, Some, None, IfNone, option_map, refl, sym, ap, subst, arith}
use Rattle.ht_base.specs.Moment.{last_moment}
use Rattle.ht_desk.specs.declared.limits.TheConstants.{GREATEST_LIMIT, LEAST_LIMIT}
use Rattle.ht_program.specs.declared.command.Named.{Named}
use Rattle.ht_program.specs.Named.{pair_of}
use Rattle.ht_program.specs.Words.{AreTexts, AreWords, Gives, IsAsked, IsLimitOf, IsNumber, IsService, MayGive, Service, WordsOf, WorkOf, greatest_port, longest_tick, most_connections, most_loaded, most_workers, value_of}
use Rattle.ht_program.specs.Words.WorkOf.{checking, exporting, loading, running, serving}
use Rattle.ht_program.proofs.Grammar.{other_text, same_number}

same_texts : (a b : Option (List ℕ)) (x y : Option (List ℕ × List ℕ)) → AreTexts a b x → AreTexts a b y → x ≡ y
same_texts None None None None p q = refl
same_texts None None None (Some y) p q = absurd q
same_texts None None (Some x) y p q = absurd p
same_texts None (Some b) x y p q = absurd p
same_texts (Some a) None x y p q = absurd p
same_texts (Some a) (Some b) None y p q = absurd p
same_texts (Some a) (Some b) (Some x) None p q = absurd q
same_texts (Some a) (Some b) (Some x) (Some y) p q =
    ap (λ (m : List ℕ). Some (m, x.1)) (p.0 ∙ sym q.0) ∙ ap (λ (m : List ℕ). Some (y.0, m)) (p.1 ∙ sym q.1)

one_number : (least most m n : ℕ) (word : List ℕ) → most < 2 ^ 64 → IsNumber least most word m → IsNumber least most word n → m ≡ n
one_number least most m n word small p q =
    same_number m n (let a = p.small in omega (arith, a, small)) (let b = q.small in omega (arith, b, small)) (sym p.spelled ∙ q.spelled)

same_limit : (journal word : Option (List ℕ)) (m n : ℕ) → IsLimitOf journal word m → IsLimitOf journal word n → m ≡ n
same_limit journal None m n p q = p ∙ sym q
same_limit journal (Some word) m n p q = one_number LEAST_LIMIT GREATEST_LIMIT m n word (omega arith) p q

same_word : (given : Option (List ℕ)) (a b : List ℕ) → given ≡ Some a → given ≡ Some b → a ≡ b
same_word given a b e f = cc

-- an option gives one number
one_given : (name : List ℕ) (least most : ℕ) (options : List (List ℕ)) (m n : ℕ) → most < 2 ^ 64 → Gives name least most options m → Gives name least most options n → m ≡ n
one_given name least most options m n small p q =
    one_number least most m n q.word small (subst (λ (w : List ℕ). IsNumber least most w m) (same_word (value_of name options) p.word q.word p.given q.given) p.number) q.number

-- and one that may be missing gives one, or none
given_or_none : (name : List ℕ) (least most : ℕ) (options : List (List ℕ)) (n : ℕ) → value_of name options ≡ None → Gives name least most options n → ⊥
given_or_none name least most options n none p = let word = p.given in absurd (cc)

one_given_or_none : (name : List ℕ) (least most : ℕ) (options : List (List ℕ)) (m n : Option ℕ) → most < 2 ^ 64 → MayGive name least most options m → MayGive name least most options n → m ≡ n
one_given_or_none name least most options None None small p q = refl
one_given_or_none name least most options None (Some n) small p q = absurd (given_or_none name least most options n p q)
one_given_or_none name least most options (Some m) None small p q = absurd (given_or_none name least most options m q p)
one_given_or_none name least most options (Some m) (Some n) small p q = ap Some (one_given name least most options m n small p q)

one_service : (options : List (List ℕ)) (s t : Service) → IsService options s → IsService options t → s ≡ t
one_service options s t p q =
    let port = one_given (codes "--port") 1 greatest_port options s.port t.port (omega arith) p.port q.port in
    let workers = one_given (codes "--workers") 1 most_workers options s.workers t.workers (omega arith) p.workers q.workers in
    let tick = one_given (codes "--tick") 1 longest_tick options s.tick t.tick (omega arith) p.tick q.tick in
    let connections = one_given_or_none (codes "--connections") 1 most_connections options s.connections t.connections (omega arith) p.connections q.connections in
    λ i. record { port = port i; workers = workers i; tick = tick i; connections = connections i }

-- ---- what is asked by a command

pub of_run : (options : List (List ℕ)) (w : WorkOf) (P : WorkOf → Type 0) → ((from step : ℕ) → IsAsked (codes "run") options (running from step) → P (running from step)) → IsAsked (codes "run") options w → P w
of_run options (running from step) P made is = made from step is
of_run options (serving service) P made is = let named = is.named in absurd (cc)
of_run options checking P made is = let named = is.named in absurd (cc)
of_run options exporting P made is = let named = is.named in absurd (cc)
of_run options (loading seed count) P made is = let named = is.named in absurd (cc)

pub of_serve : (options : List (List ℕ)) (w : WorkOf) (P : WorkOf → Type 0) → ((service : Service) → IsAsked (codes "serve") options (serving service) → P (serving service)) → IsAsked (codes "serve") options w → P w
of_serve options (running from step) P made is = let named = is.named in absurd (cc)
of_serve options (serving service) P made is = made service is
of_serve options checking P made is = absurd (other_text (codes "serve") (codes "check") false refl refl is.named)
of_serve options exporting P made is = let named = is.named in absurd (cc)
of_serve options (loading seed count) P made is = let named = is.named in absurd (cc)

pub of_check : (options : List (List ℕ)) (w : WorkOf) (P : WorkOf → Type 0) → (IsAsked (codes "check") options checking → P checking) → IsAsked (codes "check") options w → P w
of_check options (running from step) P made is = let named = is.named in absurd (cc)
of_check options (serving service) P made is = absurd (other_text (codes "check") (codes "serve") false refl refl is.named)
of_check options checking P made is = made is
of_check options exporting P made is = let named = is.named in absurd (cc)
of_check options (loading seed count) P made is = let named = is.named in absurd (cc)

pub of_export : (options : List (List ℕ)) (w : WorkOf) (P : WorkOf → Type 0) → (IsAsked (codes "export") options exporting → P exporting) → IsAsked (codes "export") options w → P w
of_export options (running from step) P made is = let named = is.named in absurd (cc)
of_export options (serving service) P made is = let named = is.named in absurd (cc)
of_export options checking P made is = let named = is.named in absurd (cc)
of_export options exporting P made is = made is
of_export options (loading seed count) P made is = let named = is.named in absurd (cc)

pub of_load : (options : List (List ℕ)) (w : WorkOf) (P : WorkOf → Type 0) → ((seed count : ℕ) → IsAsked (codes "load") options (loading seed count) → P (loading seed count)) → IsAsked (codes "load") options w → P w
of_load options (running from step) P made is = let named = is.named in absurd (cc)
of_load options (serving service) P made is = let named = is.named in absurd (cc)
of_load options checking P made is = let named = is.named in absurd (cc)
of_load options exporting P made is = let named = is.named in absurd (cc)
of_load options (loading seed count) P made is = made seed count is

-- a command with its options asks for one work
same_work : (command : List ℕ) (options : List (List ℕ)) (w other : WorkOf) → IsAsked command options w → IsAsked command options other → w ≡ other
same_work command options (running from step) other p q =
    of_run options other (λ v. running from step ≡ v) (λ f s is.
    let said = p.said in
    let also = is.said in
    ap (λ (n : ℕ). running n step) (one_given (codes "--from") 0 last_moment options from f (omega arith) said.0 also.0)
    ∙ ap (λ (n : ℕ). running f n) (one_given (codes "--step") 0 last_moment options step s (omega arith) said.1 also.1)) (subst (λ (c : List ℕ). IsAsked c options other) p.named q)
same_work command options (serving service) other p q =
    of_serve options other (λ v. serving service ≡ v) (λ s is.
    let said = p.said in
    let also = is.said in
    ap serving (one_service options service s said.1 also.1)) (subst (λ (c : List ℕ). IsAsked c options other) p.named q)
same_work command options checking other p q = of_check options other (λ v. checking ≡ v) (λ is. refl) (subst (λ (c : List ℕ). IsAsked c options other) p.named q)
same_work command options exporting other p q = of_export options other (λ v. exporting ≡ v) (λ is. refl) (subst (λ (c : List ℕ). IsAsked c options other) p.named q)
same_work command options (loading seed count) other p q =
    of_load options other (λ v. loading seed count ≡ v) (λ s n is.
    let said = p.said in
    let also = is.said in
    ap (λ (m : ℕ). loading m count) (one_given (codes "--seed") 0 (2 ^ 64 - 1) options seed s (omega arith) said.0 also.0)
    ∙ ap (λ (m : ℕ). loading s m) (one_given (codes "--count") 0 most_loaded options count n (omega arith) said.1 also.1)) (subst (λ (c : List ℕ). IsAsked c options other) p.named q)

-- ---- what the same words say

same_command : (words : List (List ℕ)) (a b : List ℕ) (os ps : List (List ℕ)) → words ≡ a ∷ os → words ≡ b ∷ ps → (a ≡ b) × (os ≡ ps)
same_command words a b os ps e f = (cc, cc)

module _ (words : List (List ℕ)) (said other : WordsOf) (p : AreWords words said) (q : AreWords words other) where
  same : (p.command ≡ q.command) × (p.options ≡ q.options)
  same = same_command words p.command q.command p.options q.options p.words_are q.words_are

  work_is : said.work ≡ other.work
  work_is =
      same_work q.command q.options said.work other.work (subst (λ (os : List (List ℕ)). IsAsked q.command os said.work) same.1 (subst (λ (c : List ℕ). IsAsked c p.options said.work) same.0 p.work_is)) q.work_is

  texts_are : said.texts ≡ other.texts
  texts_are =
      let P : List (List ℕ) → Type 0 = λ os. AreTexts (value_of (codes "--models") os) (value_of (codes "--people") os) said.texts in
      same_texts _ _ said.texts other.texts (subst P same.1 p.texts_are) q.texts_are

  journal_is : said.journal ≡ other.journal
  journal_is = sym p.journal_is ∙ ap (value_of (codes "--journal")) same.1 ∙ q.journal_is

  limit_is : said.limit ≡ other.limit
  limit_is =
      let P : List (List ℕ) → Type 0 = λ os. IsLimitOf said.journal (value_of (codes "--limit") os) said.limit in
      let mine = subst (λ (j : Option (List ℕ)). IsLimitOf j (value_of (codes "--limit") q.options) said.limit) journal_is (subst P same.1 p.limit_is) in
      same_limit other.journal (value_of (codes "--limit") q.options) said.limit other.limit mine q.limit_is

  pub one_reading : said ≡ other
  one_reading = λ i. record { work = work_is i; texts = texts_are i; journal = journal_is i; limit = limit_is i }

-- without names nothing is asked of the texts
pub no_names : (names : Option Named) (P : Type 0) → option_map pair_of names ≡ None → IfNone names P → P
no_names None P none kept = kept
no_names (Some names) P none kept = absurd (cc)
