-- How the serving of a connection goes on.
use Rattle.std.proofs.Common.{◌≡◌, inl, inr, ⊎_elim, ◌⊎◌, ◌||◌, ℕ, ◌+◌, ◌<◌, ◌≤◌, Bool, true, false, List, [], ◌∷◌, ◌++◌, length, refl, sym, ap, subst, ◌∙◌, arith, append_assoc, length-append, Option}
use Rattle.std.proofs.lemmas.List.{map-append}
use Rattle.std.proofs.lemmas.Grind.{flat_map-append}
use Rattle.ht_outside.proofs.PublicLaws.{Grows-trans, Takes-trans}
use Rattle.ht_outside.specs.Causes.{Rose}
use Rattle.ht_outside.specs.Clocks.{later as next_on}
use Rattle.ht_outside.specs.Tells.{SourceState, SinkState, Grows}
use Rattle.ht_wire.specs.declared.request.Request.{Request}
use Rattle.ht_wire.specs.Reading.{EndsAt}
use Rattle.ht_wire.specs.Requests.{AreRequests}
use Rattle.ht_serve.specs.declared.ending.Ending.{Ending}
use Rattle.ht_serve.specs.declared.ending.Ending.TheVariants as ending
use Rattle.ht_serve.specs.Calls.{Call}
use Rattle.ht_serve.specs.Closing.{GoOn, Close}
use Rattle.ht_serve.specs.Exchanges.{Exchange, AreExchanges, HasAway, after, calls, calls_of, closings, replies, requests, spelled}
use Rattle.ht_serve.specs.Serving.{AreLater, EndsAs, Follows, FollowsAs, Goes, IsCutOff, IsClosed, IsCutInRefusal, IsCutInReply, IsRefusedBehind, ReadsOneMore, ReadsThem, Served, Serves, Sides, sides}
use Rattle.ht_serve.specs.Texts.{refusal_bytes}
use Rattle.ht_serve.proofs.Standing.{NoLast, chain, needed_on, one_more_on, still}

-- ---- exchanges one behind another

after_on : (xs ys : List Exchange) (clock : Option (ℕ → ℕ)) → after (xs ++ ys) clock ≡ after ys (after xs clock)
after_on [] ys clock = refl
after_on (x ∷ xs) ys clock = after_on xs ys (next_on clock)

module _ (closing : Bool) (most : ℕ) where
  numbered_on : (clock : Option (ℕ → ℕ)) (k : ℕ) (xs ys : List Exchange) → AreExchanges closing most clock k xs → AreExchanges closing most (after xs clock) (k + length xs) ys → AreExchanges closing most clock k (xs ++ ys)
  numbered_on clock k [] ys a b = subst (λ (n : ℕ). AreExchanges closing most clock n ys) (let e : k + 0 ≡ k = omega arith in e) b
  numbered_on clock k (x ∷ xs) ys a b =
      (a.0, a.1, a.2, a.3, numbered_on (next_on clock) (k + 1) xs ys a.4 (subst (λ (n : ℕ). AreExchanges closing most (after xs (next_on clock)) n ys) (let e : k + length (x ∷ xs) ≡ k + 1 + length xs = omega arith in e) b))

  or_left : (b c : Bool) → (b || c) ≡ false → b ≡ false
  or_left true c e = absurd (cc)
  or_left false c e = refl

  no_last : (clock : Option (ℕ → ℕ)) (k : ℕ) (xs : List Exchange) → AreExchanges closing most clock k xs → GoOn (closings xs) → NoLast (requests xs)
  no_last clock k [] a going = tt
  no_last clock k (x ∷ xs) a going = (or_left x.request.last _ (sym a.2 ∙ going.0), no_last (next_on clock) (k + 1) xs a.4 going.1)

requests_on : (xs ys : List Exchange) → requests (xs ++ ys) ≡ requests xs ++ requests ys
requests_on xs ys = map-append (λ (x : Exchange). x.request) xs ys

calls_on : (xs ys : List Exchange) → calls (xs ++ ys) ≡ calls xs ++ calls ys
calls_on xs ys = flat_map-append (λ (x : Exchange). calls_of x.outcome) xs ys

replies_on : (xs ys : List Exchange) → replies (xs ++ ys) ≡ replies xs ++ replies ys
replies_on xs ys = flat_map-append spelled xs ys

away_on : (xs ys : List Exchange) → HasAway (xs ++ ys) → HasAway xs ⊎ HasAway ys
away_on [] ys h = inr h
away_on (x ∷ xs) ys (inl h) = inl (inl h)
away_on (x ∷ xs) ys (inr h) = ⊎_elim (λ (a : HasAway xs). inl (inr a)) (λ (b : HasAway ys). inr b) (away_on xs ys h)

GoOn-append : (xs ys : List Exchange) → GoOn (closings xs) → GoOn (closings ys) → GoOn (closings (xs ++ ys))
GoOn-append [] ys a b = b
GoOn-append (x ∷ xs) ys a b = (a.0, GoOn-append xs ys a.1 b)

Close-one : (x : Exchange) (ys : List Exchange) → Close (closings ys) → Close (closings (x ∷ ys))
Close-one x [] b = absurd b
Close-one x (y ∷ ys) b = b

Close-append : (xs ys : List Exchange) → Close (closings ys) → Close (closings (xs ++ ys))
Close-append [] ys b = b
Close-append (x ∷ xs) ys b = Close-one x (xs ++ ys) (Close-append xs ys b)

pub rose_later : (before mid now : ℕ) → before ≤ mid → Rose mid now → Rose before now
rose_later before mid now first then_on = omega (arith, first, then_on)

pub later_on : (old mid new : Sides) → AreLater old mid → AreLater mid new → AreLater old new
later_on old mid new a b = record {
  input = (let one = a.input in let two = b.input in omega (arith, one, two));
  output = (let one = a.output in let two = b.output in omega (arith, one, two));
}

-- the calls of the first part are made by one caller's state, those of the second from there on
module _ (A B M : List Call → Type 0) (P Q : Type 0) (made_more : (xs ys : List Call) → A xs → B ys → M (xs ++ ys)) (kept : P → Q) (closing : Bool) (most : ℕ) where
  module _ (clock between : Option (ℕ → ℕ)) (k i : ℕ) (bytes more q r : List ℕ) (xs ys : List Exchange) where
    serves_on : Serves A P closing most k clock bytes q xs → between ≡ after xs clock → GoOn (closings xs) → i ≡ k + length xs → Serves B Q closing most i between (q ++ more) r ys → Serves M Q closing most k clock (bytes ++ more) r (xs ++ ys)
    serves_on a is going counted b = record {
      stand = rw (requests_on xs ys) (chain (requests xs) bytes more q (requests ys) r (no_last closing most clock k xs a.numbered going) a.stand b.stand);
      numbered = numbered_on closing most clock k xs ys a.numbered (subst (λ (n : ℕ). AreExchanges closing most (after xs clock) n ys) counted (subst (λ (c : Option (ℕ → ℕ)). AreExchanges closing most c i ys) is b.numbered));
      made = rw (calls_on xs ys) (made_more (calls xs) (calls ys) a.made b.made);
      away = λ h. ⊎_elim (λ (x : HasAway xs). kept (a.away x)) (λ (y : HasAway ys). b.away y) (away_on xs ys h);
    }

  module _ (k i : ℕ) (old mid new : Sides) (p q : List ℕ) (a : Goes A P closing most k i old mid p q) where
    abbrev xs : List Exchange
    xs = a.exchanges

    serves_more : (r taken : List ℕ) (ys : List Exchange) → Serves B Q closing most i mid.clock (q ++ taken) r ys → Serves M Q closing most k old.clock (p ++ (a.taken ++ taken)) r (xs ++ ys)
    serves_more r taken ys b =
        let P : List ℕ → Type 0 = λ l. Serves M Q closing most k old.clock l r (xs ++ ys) in
        subst P (append_assoc p a.taken taken) (serves_on old.clock mid.clock k i (p ++ a.taken) taken q r xs ys a.serves a.clock a.open_still a.counted b)

    needed_more : (ys : List Exchange) → ReadsThem (requests ys) mid new q → ReadsThem (requests (xs ++ ys)) old new p
    needed_more ys b =
        let P : List Request → Type 0 = λ rs. ReadsThem rs old new p in
        subst P (sym (requests_on xs ys)) (needed_on p q a.taken (requests xs) (requests ys) old.input.flow mid.input.flow new.input.flow a.takes a.serves.stand a.needed b)

    needed_one_more : (ys : List Exchange) → ReadsOneMore (requests ys) mid new q → ReadsOneMore (requests (xs ++ ys)) old new p
    needed_one_more ys b =
        let P : List Request → Type 0 = λ rs. ReadsOneMore rs old new p in
        subst P (sym (requests_on xs ys)) (one_more_on p q a.taken (requests xs) (requests ys) (no_last closing most old.clock k xs a.serves.numbered a.open_still) old.input.flow mid.input.flow new.input.flow a.takes a.serves.stand a.needed b)

    clock_more : (ys : List Exchange) → new.clock ≡ after ys mid.clock → new.clock ≡ after (xs ++ ys) old.clock
    clock_more ys b = b ∙ ap (λ c. after ys c) a.clock ∙ sym (after_on xs ys old.clock)

    -- ---- what was written

    all_written : (ys : List Exchange) (tail : List ℕ) → Grows mid.output.written new.output.written (replies ys ++ tail) → Grows old.output.written new.output.written (replies (xs ++ ys) ++ tail)
    all_written ys tail b =
        let P : List ℕ → Type 0 = λ l. Grows old.output.written new.output.written l in
        subst P (sym (append_assoc (replies xs) (replies ys) tail) ∙ ap (λ l. l ++ tail) (sym (replies_on xs ys))) (Grows-trans old.output.written mid.output.written new.output.written (replies xs) (replies ys ++ tail) a.wrote b)

    wrote_on : (ys : List Exchange) → Grows mid.output.written new.output.written (replies ys) → Grows old.output.written new.output.written (replies (xs ++ ys))
    wrote_on ys b = rw (replies_on xs ys) (Grows-trans old.output.written mid.output.written new.output.written (replies xs) (replies ys) a.wrote b)

    -- ---- how it ends

    module _ (ys : List Exchange) where
      count_on : k + length (xs ++ ys) ≡ i + length ys
      count_on = let l = length-append xs ys in let c = a.counted in omega (arith, l, c)

      refused_on : (rest : List ℕ) (code : ℕ) → IsRefusedBehind most (i + length ys) mid new q rest ys code → IsRefusedBehind most (k + length (xs ++ ys)) old new p rest (xs ++ ys) code
      refused_on rest code b = record {
        open_still = GoOn-append xs ys a.open_still b.open_still;
        few = rw count_on b.few;
        refused = b.refused;
        needed = needed_one_more ys b.needed;
      }

      closed_on : IsClosed mid new q ys → IsClosed old new p (xs ++ ys)
      closed_on b = record { closes = Close-append xs ys b.closes; needed = needed_more ys b.needed }

      cut_reply_on : (whole cut : List ℕ) → IsCutInReply mid new q ys whole cut → IsCutInReply old new p (xs ++ ys) (replies xs ++ whole) cut
      cut_reply_on whole cut b = record {
        earlier = xs ++ b.earlier;
        last = b.last;
        they_are = ap (λ l. xs ++ l) b.they_are ∙ sym (append_assoc xs b.earlier (b.last ∷ []));
        needed = needed_more ys b.needed;
        whole_is = ap (λ l. replies xs ++ l) b.whole_is ∙ sym (replies_on xs b.earlier);
        cut_is = b.cut_is;
      }

      cut_refusal_on : (rest whole cut : List ℕ) → IsCutInRefusal most (i + length ys) mid new q rest ys whole cut → IsCutInRefusal most (k + length (xs ++ ys)) old new p rest (xs ++ ys) (replies xs ++ whole) cut
      cut_refusal_on rest whole cut b = record {
        code = b.code;
        refused = refused_on rest b.code b.refused;
        whole_is = ap (λ l. replies xs ++ l) b.whole_is ∙ sym (replies_on xs ys);
        cut_is = b.cut_is;
      }

      cut_off_on : (rest : List ℕ) → IsCutOff most (i + length ys) mid new q rest ys → IsCutOff most (k + length (xs ++ ys)) old new p rest (xs ++ ys)
      cut_off_on rest b = record {
        rose = rose_later old.output.faults mid.output.faults new.output.faults (a.later).output b.rose;
        whole = replies xs ++ b.whole;
        cut = b.cut;
        last = ⊎_elim (λ (c : IsCutInReply mid new q ys b.whole b.cut). inl (cut_reply_on b.whole b.cut c)) (λ (c : IsCutInRefusal most (i + length ys) mid new q rest ys b.whole b.cut). inr (cut_refusal_on rest b.whole b.cut c)) b.last;
        front = b.front;
        back = b.back;
        cut_is = b.cut_is;
        wrote = subst (λ (l : List ℕ). Grows old.output.written new.output.written l) (sym (append_assoc (replies xs) b.whole b.front)) (Grows-trans old.output.written mid.output.written new.output.written (replies xs) (b.whole ++ b.front) a.wrote b.wrote);
      }

      ends_on : (e : Ending) (rest : List ℕ) → EndsAs closing most (i + length ys) e mid new q rest ys → EndsAs closing most (k + length (xs ++ ys)) e old new p rest (xs ++ ys)
      ends_on ending.Done rest b =
          (⊎_elim (λ (c : IsClosed mid new q ys). inl (closed_on c)) (λ (o : GoOn (closings ys) × EndsAt new.input.flow rest). inr (GoOn-append xs ys a.open_still o.0, o.1)) b.0, rw count_on b.1, wrote_on ys b.2)
      ends_on (ending.Wire code) rest b = (refused_on rest code b.0, all_written ys (refusal_bytes code) b.1)
      ends_on ending.Budget rest b = (b.0, GoOn-append xs ys a.open_still b.1, rw count_on b.2, b.3, wrote_on ys b.4)
      ends_on ending.ReadFault rest b =
          (GoOn-append xs ys a.open_still b.0, rw count_on b.1, b.2, rose_later old.input.faults mid.input.faults new.input.faults (a.later).input b.3, wrote_on ys b.4)
      ends_on ending.WriteFault rest b = (rw count_on b.0, cut_off_on rest b.1)
      ends_on ending.Memory rest b = (GoOn-append xs ys a.open_still b.0, rw count_on b.1, wrote_on ys b.2)

    pub goes_on : (j : ℕ) (r : List ℕ) → Goes B Q closing most i j mid new q r → Goes M Q closing most k j old new p r
    goes_on j r b = record {
      exchanges = xs ++ b.exchanges;
      counted = (let m = a.counted in let n = b.counted in let l = length-append xs b.exchanges in omega arith);
      short = b.short;
      taken = a.taken ++ b.taken;
      takes = Takes-trans old.input.flow mid.input.flow new.input.flow a.taken b.taken a.takes b.takes;
      serves = serves_more r b.taken b.exchanges b.serves;
      clock = clock_more b.exchanges b.clock;
      open_still = GoOn-append xs b.exchanges a.open_still b.open_still;
      wrote = wrote_on b.exchanges b.wrote;
      needed = needed_more b.exchanges b.needed;
      later = later_on old mid new a.later b.later;
    }

    pub goes_ends : (e : Ending) → Served B Q closing most i mid new q e → Served M Q closing most k old new p e
    goes_ends e b = record {
      exchanges = xs ++ b.exchanges;
      taken = a.taken ++ b.taken;
      takes = Takes-trans old.input.flow mid.input.flow new.input.flow a.taken b.taken a.takes b.takes;
      rest = b.rest;
      serves = serves_more b.rest b.taken b.exchanges b.serves;
      clock = clock_more b.exchanges b.clock;
      ends = ends_on b.exchanges e b.rest b.ends;
      later = later_on old mid new a.later b.later;
    }

-- as many requests as may be were answered, and this follows
module _ (A : List Call → Type 0) (P : Type 0) (closing : Bool) (most : ℕ) (old : Sides) (input more : SourceState) (output : SinkState) (clock : Option (ℕ → ℕ)) (p q : List ℕ) (a : Goes A P closing most 0 most old (sides input output clock) p q) where
  all_counted : 0 + length a.exchanges ≡ most
  all_counted = let c = a.counted in omega arith

  not_closing : (b : Bool) → (b ≡ true → most < most) → b ≡ false
  not_closing true short = absurd (let s = short refl in omega arith)
  not_closing false short = refl

  ended : (e : Ending) (rest : List ℕ) → FollowsAs e input more rest → EndsAs closing most (0 + length a.exchanges) e old (sides more output clock) p rest a.exchanges
  ended ending.Done rest follows = (inr (a.open_still, follows), (let all = all_counted in omega (arith, all)), a.wrote)
  ended (ending.Wire code) rest follows = absurd follows
  ended ending.Budget rest follows = (not_closing closing a.short, a.open_still, all_counted, follows, a.wrote)
  ended ending.ReadFault rest follows =
      (a.open_still, (let all = all_counted in omega (arith, all)), follows.0, rose_later old.input.faults input.faults more.faults (a.later).input follows.1, a.wrote)
  ended ending.WriteFault rest follows = absurd follows
  ended ending.Memory rest follows = (a.open_still, (let all = all_counted in omega (arith, all)), a.wrote)

  pub goes_follows : (e : Ending) → Follows input more q e → Served A P closing most 0 old (sides more output clock) p e
  goes_follows e b = record {
    exchanges = a.exchanges;
    taken = a.taken ++ b.taken;
    takes = Takes-trans old.input.flow input.flow more.flow a.taken b.taken a.takes b.takes;
    rest = q ++ b.taken;
    serves = record {
      stand = subst (λ (l : List ℕ). AreRequests l (requests a.exchanges) (q ++ b.taken)) (append_assoc p a.taken b.taken) (still (requests a.exchanges) (p ++ a.taken) b.taken q a.serves.stand);
      numbered = a.serves.numbered;
      made = a.serves.made;
      away = a.serves.away;
    };
    clock = a.clock;
    ends = ended e (q ++ b.taken) b.follows;
    later = record { input = (let one = (a.later).input in let two = b.later in omega (arith, one, two)); output = (a.later).output };
  }

-- the same connection, of calls of which less is said
pub served_for : (A B : List Call → Type 0) (P : Type 0) (closing : Bool) (most k : ℕ) (old new : Sides) (pending : List ℕ) (e : Ending) → ((cs : List Call) → A cs → B cs) → Served A P closing most k old new pending e → Served B P closing most k old new pending e
served_for A B P closing most k old new pending e less s = record {
  exchanges = s.exchanges;
  taken = s.taken;
  takes = s.takes;
  rest = s.rest;
  serves = record { stand = s.serves.stand; numbered = s.serves.numbered; made = less (calls s.exchanges) s.serves.made; away = s.serves.away };
  clock = s.clock;
  ends = s.ends;
  later = s.later;
}
