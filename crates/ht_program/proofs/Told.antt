-- A step of an office that tells no want of memory, and no disk that failed, is what the office decides.
use Rattle.std.proofs.Common.{◌≡◌, ◌≢◌, Option, Some, None, sym, ap, subst, ◌∙◌}
use Rattle.ht_base.specs.declared.event.Event.{Event}
use Rattle.ht_base.specs.declared.reply.Reply.{Reply}
use Rattle.ht_base.specs.Records.{RecordOf}
use Rattle.ht_desk.specs.States.{State}
use Rattle.ht_desk.specs.Steps.{Acts, Settles, Steps, memory_reply, replied_to, store_reply}
use Rattle.ht_desk.specs.Steps.Acts.{unsettled, out_of_memory, nothing_left, full, done, failed}
use Rattle.ht_desk.specs.Steps.Settles.{certain, dropped, joined, undecided}
use Rattle.ht_serve.specs.Texts.{reply_status}
use Rattle.ht_program.specs.Folding.{Decided, office_of}
use Rattle.ht_program.specs.Folding.Decided.{nothing_left as leaves_nothing, kept as is_kept, full as is_full}

pub record Told (s : State) (e : Event) (reply : Reply) (t : State) : Type 0 where
  pub decides : Decided s.limit (office_of s) e reply (office_of t)
  pub certain : t.doubt ≡ None
  pub limited : t.limit ≡ s.limit

module _ (e : Event) (reply : Reply) (memory : reply_status e reply.answer ≢ 500) (store : reply_status e reply.answer ≢ 503) where
  no_memory : reply ≡ memory_reply → ⊥
  no_memory is = memory (ap (λ (r : Reply). reply_status e r.answer) is)

  no_store : reply ≡ store_reply → ⊥
  no_store is = store (ap (λ (r : Reply). reply_status e r.answer) is)

  by_acts : (mid acted : State) → Acts mid e reply acted → Told mid e reply acted
  by_acts mid acted (unsettled r doubt is new) = absurd (no_store is)
  by_acts mid acted (out_of_memory none is new) = absurd (no_memory is)
  by_acts mid acted (nothing_left u none decides new) = record {
    decides = leaves_nothing u decides (ap office_of new);
    certain = ap (λ (s : State). s.doubt) new ∙ none;
    limited = ap (λ (s : State). s.limit) new;
  }
  by_acts mid acted (full r d u none decides over is new) = record {
    decides = is_full r d u decides over is (ap office_of new);
    certain = ap (λ (s : State). s.doubt) new ∙ none;
    limited = ap (λ (s : State). s.limit) new;
  }
  by_acts mid acted (done r u none decides fits new) = record {
    decides = is_kept r u decides fits (ap office_of new);
    certain = ap (λ (s : State). s.doubt) new ∙ none;
    limited = ap (λ (s : State). s.limit) new;
  }
  by_acts mid acted (failed r d u none decides fits is rose new) = absurd (no_store is)

  some_none : (d : Option RecordOf) (r : RecordOf) → d ≡ Some r → d ≡ None → ⊥
  some_none d r some none = cc

  by_settles : (s mid : State) → Settles s mid → s.doubt ≡ None → mid ≡ s
  by_settles s mid (certain none is) sure = is
  by_settles s mid (dropped r doubt is) sure = absurd (some_none _ r doubt sure)
  by_settles s mid (joined r u doubt applies is) sure = absurd (some_none _ r doubt sure)
  by_settles s mid (undecided r doubt is rose) sure = absurd (some_none _ r doubt sure)

  counted : (s acted : State) → Told s e reply acted → Told s e reply (replied_to acted e reply)
  counted s acted told = record { decides = told.decides; certain = told.certain; limited = told.limited }

  pub told_of : (s t : State) → Steps s e reply t → s.doubt ≡ None → Told s e reply t
  told_of s t p sure =
      let told = by_acts p.mid p.acted p.acts in
      let from = subst (λ (m : State). Told m e reply p.acted) (by_settles s p.mid p.settles sure) told in
      subst (λ (u : State). Told s e reply u) (sym p.counted) (counted s p.acted from)
