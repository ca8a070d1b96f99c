-- In what a step of a desk ends.
use Rattle.std.proofs.Common.{◌≡◌, ◌≢◌, ◌⊎◌, inl, inr, ⊎_elim, ℕ, Option, Some, None, ap, sym, ◌∙◌, subst}
use Rattle.ht_base.specs.declared.event.Event.{Event}
use Rattle.ht_base.specs.declared.reply.Reply.{Reply}
use Rattle.ht_base.specs.Records.{RecordOf}
use Rattle.ht_outside.specs.Causes.{Rose}
use Rattle.ht_desk.specs.States.{State}
use Rattle.ht_desk.specs.Steps.{Acts, Settles, Steps, store_reply}
use Rattle.ht_desk.specs.Steps.Acts.{done, failed, full, nothing_left, out_of_memory, unsettled}
use Rattle.ht_desk.specs.Steps.Settles.{certain, dropped, joined, undecided}

-- ---- the limit

settled_limit : (s mid : State) → Settles s mid → mid.limit ≡ s.limit
settled_limit s mid (certain none same) = ap (λ (m : State). m.limit) same
settled_limit s mid (dropped r has same) = ap (λ (m : State). m.limit) same
settled_limit s mid (joined r u has on same) = ap (λ (m : State). m.limit) same
settled_limit s mid (undecided r has same rose) = ap (λ (m : State). m.limit) same

acted_limit : (mid : State) (e : Event) (reply : Reply) (t : State) → Acts mid e reply t → t.limit ≡ mid.limit
acted_limit mid e reply t (unsettled r has told same) = ap (λ (m : State). m.limit) same
acted_limit mid e reply t (out_of_memory none told same) = ap (λ (m : State). m.limit) same
acted_limit mid e reply t (nothing_left u none decides same) = ap (λ (m : State). m.limit) same
acted_limit mid e reply t (full r d u none decides over told same) = ap (λ (m : State). m.limit) same
acted_limit mid e reply t (done r u none decides fits same) = ap (λ (m : State). m.limit) same
acted_limit mid e reply t (failed r d u none decides fits told rose which) = ⊎_elim (λ same. ap (λ (m : State). m.limit) same) (λ same. ap (λ (m : State). m.limit) same) which

pub same_limit : (s : State) (e : Event) (reply : Reply) (t : State) → Steps s e reply t → t.limit ≡ s.limit
same_limit s e reply t p = ap (λ (m : State). m.limit) p.counted ∙ (acted_limit p.mid e reply p.acted p.acts ∙ settled_limit s p.mid p.settles)

-- ---- faults

-- the count stays, or a disk failed and that is answered
abbrev pub StaysOrFailed : ℕ → Reply → ℕ → Type 0
StaysOrFailed before reply now = (now ≡ before) ⊎ ((reply ≡ store_reply) × Rose before now)

not_both : (o : Option RecordOf) (r : RecordOf) → o ≡ None → o ≡ Some r → ⊥
not_both o r none some = cc

-- while a doubt stays, that is answered and nothing changes
doubted_acts : (mid : State) (e : Event) (reply : Reply) (t : State) (r : RecordOf) → mid.doubt ≡ Some r → Acts mid e reply t → (reply ≡ store_reply) × (t ≡ mid)
doubted_acts mid e reply t r has (unsettled x there told same) = (told, same)
doubted_acts mid e reply t r has (out_of_memory none told same) = absurd (not_both mid.doubt r none has)
doubted_acts mid e reply t r has (nothing_left u none decides same) = absurd (not_both mid.doubt r none has)
doubted_acts mid e reply t r has (full x d u none decides over told same) = absurd (not_both mid.doubt r none has)
doubted_acts mid e reply t r has (done x u none decides fits same) = absurd (not_both mid.doubt r none has)
doubted_acts mid e reply t r has (failed x d u none decides fits told rose which) = absurd (not_both mid.doubt r none has)

acted_faults : (mid : State) (e : Event) (reply : Reply) (t : State) → Acts mid e reply t → StaysOrFailed mid.faults reply t.faults
acted_faults mid e reply t (unsettled r has told same) = inl (ap (λ (m : State). m.faults) same)
acted_faults mid e reply t (out_of_memory none told same) = inl (ap (λ (m : State). m.faults) same)
acted_faults mid e reply t (nothing_left u none decides same) = inl (ap (λ (m : State). m.faults) same)
acted_faults mid e reply t (full r d u none decides over told same) = inl (ap (λ (m : State). m.faults) same)
acted_faults mid e reply t (done r u none decides fits same) = inl (ap (λ (m : State). m.faults) same)
acted_faults mid e reply t (failed r d u none decides fits told rose which) = inr (told, rose)

from_same : (before mid now : ℕ) (reply : Reply) → mid ≡ before → StaysOrFailed mid reply now → StaysOrFailed before reply now
from_same before mid now reply same is = subst (λ (n : ℕ). StaysOrFailed n reply now) same is

both_faults : (s mid : State) (e : Event) (reply : Reply) (t : State) → Settles s mid → Acts mid e reply t → StaysOrFailed s.faults reply t.faults
both_faults s mid e reply t (certain none same) acts = from_same s.faults mid.faults t.faults reply (ap (λ (m : State). m.faults) same) (acted_faults mid e reply t acts)
both_faults s mid e reply t (dropped r has same) acts = from_same s.faults mid.faults t.faults reply (ap (λ (m : State). m.faults) same) (acted_faults mid e reply t acts)
both_faults s mid e reply t (joined r u has on same) acts = from_same s.faults mid.faults t.faults reply (ap (λ (m : State). m.faults) same) (acted_faults mid e reply t acts)
both_faults s mid e reply t (undecided r has same rose) acts =
    let w = doubted_acts mid e reply t r (ap (λ (m : State). m.doubt) same ∙ has) acts in
    let R : State → Type 0 = λ m. Rose s.faults m.faults in
    inr (w.0, subst R (sym w.1) rose)

pub stays_or_failed : (s : State) (e : Event) (reply : Reply) (t : State) → Steps s e reply t → StaysOrFailed s.faults reply t.faults
stays_or_failed s e reply t p =
    let F : State → Type 0 = λ m. StaysOrFailed s.faults reply m.faults in
    subst F (sym p.counted) (both_faults s p.mid e reply p.acted p.settles p.acts)

-- ---- doubts

acted_certain : (mid : State) (e : Event) (reply : Reply) (t : State) → reply ≢ store_reply → Acts mid e reply t → t.doubt ≡ None
acted_certain mid e reply t away (unsettled r has told same) = absurd (away told)
acted_certain mid e reply t away (out_of_memory none told same) = ap (λ (m : State). m.doubt) same ∙ none
acted_certain mid e reply t away (nothing_left u none decides same) = ap (λ (m : State). m.doubt) same ∙ none
acted_certain mid e reply t away (full r d u none decides over told same) = ap (λ (m : State). m.doubt) same ∙ none
acted_certain mid e reply t away (done r u none decides fits same) = ap (λ (m : State). m.doubt) same ∙ none
acted_certain mid e reply t away (failed r d u none decides fits told rose which) = absurd (away told)

pub is_certain : (s : State) (e : Event) (reply : Reply) (t : State) → Steps s e reply t → reply ≢ store_reply → t.doubt ≡ None
is_certain s e reply t p away = ap (λ (m : State). m.doubt) p.counted ∙ acted_certain p.mid e reply p.acted away p.acts
