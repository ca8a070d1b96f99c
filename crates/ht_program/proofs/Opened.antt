-- Which of two texts were asked for, and what was read of them.
use Rattle.std.proofs.Common.{◌≡◌, ◌∙◌, inl, inr, ℕ, suc, ◌<◌, ◌≤◌, List, [], ◌∷◌, ◌++◌, length, arith, refl, sym, ap, append_assoc, append-nil, Option, Some, None, Result, Ok, Err, IfSome}
use Rattle.ht_base.specs.Bytes.{BytesOf}
use Rattle.ht_base.specs.declared.limits.TheConstants.{LONGEST_OFFICE_TEXT}
use Rattle.ht_outside.specs.Causes.{RoseWhere}
use Rattle.ht_outside.specs.Texts.{IsNoted, ReadsWhole, TextsState}
use Rattle.ht_outside.specs.declared.asked.Asked.{Asked}
use Rattle.ht_outside.specs.declared.text_fault.TextFault.TheVariants as read
use Rattle.ht_program.specs.declared.reading.TextsFault.{TextsFault}
use Rattle.ht_program.specs.declared.reading.TextsFault.TheVariants.{Unread, TooLong, Memory}
use Rattle.ht_program.specs.declared.reading.Which.{Which}
use Rattle.ht_program.specs.declared.reading.Which.TheVariants as which
use Rattle.ht_desk.specs.Replaying.{TextsOf, texts_of}
use Rattle.ht_program.specs.Reading.{Asks, IsTextOf, IsUnread, LastFailed, Reads, ReadsText, name_in}

-- ---- one text

some_text : (told : Option (List ℕ → List ℕ)) (name : List ℕ) → (text : List ℕ) × IsTextOf told name text
some_text None name = ([], tt)
some_text (Some told) name = (told name, refl)

long_text : (n : ℕ) → (text : List ℕ) × (n < length text)
long_text Prim.Native.Nat.zero = (0 ∷ [], omega arith)
long_text (suc n) = let shorter = long_text n in (0 ∷ shorter.0, (let longer = shorter.1 in omega arith))

module _ (w : Which) (told : Option (List ℕ → List ℕ)) (name : List ℕ) where
  pub read_failed : ReadsText w told name (Err (Unread w))
  read_failed = let text = some_text told name in (text.0, text.1, refl)

  pub no_memory : ReadsText w told name (Err Memory)
  no_memory = let text = some_text told name in (text.0, text.1, tt)

pub read_long : (w : Which) (told : Option (List ℕ → List ℕ)) (name : List ℕ) → IfSome told (λ text. ReadsWhole LONGEST_OFFICE_TEXT (text name) (Err read.TooLong)) → ReadsText w told name (Err (TooLong w))
read_long w None name reads = let text = long_text LONGEST_OFFICE_TEXT in (text.0, tt, (refl, text.1))
read_long w (Some told) name reads = (told name, refl, (refl, reads))

-- ---- what both texts give

module _ (told : Option (List ℕ → List ℕ)) (names : List ℕ × List ℕ) where
  pub first_failed : (why : TextsFault) → ReadsText which.Models told names.0 (Err why) → Reads (Some names) told (Err why)
  first_failed why a = let p = some_text told names.1 in (a.0, p.0, a.1, p.1, inl a.2)

  pub second_failed : (models : BytesOf) (why : TextsFault) → ReadsText which.Models told names.0 (Ok models) → ReadsText which.People told names.1 (Err why) → Reads (Some names) told (Err why)
  second_failed models why a b = (a.0, b.0, a.1, b.1, inr (a.2.1, b.2))

  pub both_read : (models people : BytesOf) → ReadsText which.Models told names.0 (Ok models) → ReadsText which.People told names.1 (Ok people) → Reads (Some names) told (Ok (texts_of models.items people.items))
  both_read models people a b = (a.0, b.0, a.1, b.1, (ap (λ (m : List ℕ). texts_of m people.items) a.2.0 ∙ ap (texts_of a.0) b.2.0, a.2.1, b.2.1))

-- ---- which texts were asked for

abbrev noted : List ℕ → TextsState → Asked
noted name state = record { name = name; before = state.faults }

fault_is : {T : Type 0} → (why other : TextsFault) → ◌≡◌ {A = Result T TextsFault} (Err why) (Err other) → why ≡ other
fault_is why other e = cc

no_fault : {T : Type 0} → (x : T) (why : TextsFault) → ◌≡◌ {A = Result T TextsFault} (Ok x) (Err why) → ⊥
no_fault x why e = cc

-- a read that gave a text was noted
was_noted : (bytes : BytesOf) (name : List ℕ) (old new : TextsState) → IsNoted (◌≡◌ {A = Result BytesOf TextsFault} (Ok bytes) (Err Memory)) name old new → new.asked ≡ old.asked ++ noted name old ∷ []
was_noted bytes name old new (inl first) = first
was_noted bytes name old new (inr none) = absurd (no_fault bytes Memory none.0)

-- want of memory is no unread text
not_unread : (why : TextsFault) (w : Which) → ◌≡◌ {A = Result BytesOf TextsFault} (Err why) (Err Memory) → ◌≡◌ {A = Result TextsOf TextsFault} (Err why) (Err (Unread w)) → ⊥
not_unread why w e f = two why w (fault_is why Memory e) (fault_is why (Unread w) f)
  where
    two : (why : TextsFault) (w : Which) → why ≡ Memory → why ≡ Unread w → ⊥
    two why w e f = cc

-- the fault of a read is of the text that was asked for
which_is : (told : Option (List ℕ → List ℕ)) (name : List ℕ) (v w : Which) (why : TextsFault) → ReadsText v told name (Err why) → why ≡ Unread w → v ≡ w
which_is told name v w (Unread x) a is = let same : x ≡ w = cc in sym a.2 ∙ same
which_is told name v w (TooLong x) a is = absurd (cc)
which_is told name v w Memory a is = absurd (cc)

module _ (names : List ℕ × List ℕ) (old mid new : TextsState) (told : Option (List ℕ → List ℕ)) where
  -- the last read is of this text
  last_failed : (v w : Which) (earlier : List Asked) (state : TextsState) (why : TextsFault) → ReadsText v told (name_in v names) (Err why) → RoseWhere (IsUnread {T = BytesOf} (Err why)) state.faults new.faults → old.faults ≤ state.faults
      → ◌≡◌ {A = Result TextsOf TextsFault} (Err why) (Err (Unread w)) → LastFailed (earlier ++ noted (name_in v names) state ∷ []) (name_in w names) old.faults new.faults
  last_failed v w earlier state why reads cause later is =
      let e : why ≡ Unread w = fault_is why (Unread w) is in
      record {
        earlier = earlier;
        last = noted (name_in v names) state;
        reads_are = refl;
        named = ap (λ (x : Which). name_in x names) (which_is told (name_in v names) v w why reads e);
        later = later;
        failed = cause.failed (w, ap Err e);
      }

  pub asks_first : (why : TextsFault) → IsNoted (◌≡◌ {A = Result BytesOf TextsFault} (Err why) (Err Memory)) names.0 old new → ReadsText which.Models told names.0 (Err why) → RoseWhere (IsUnread {T = BytesOf} (Err why)) old.faults new.faults → Asks names old new (Err why)
  asks_first why (inl first) reads cause = record {
    reads = noted names.0 old ∷ [];
    grown = first;
    unasked = names.1 ∷ [];
    begins = refl;
    both = tt;
    unread = λ w is. last_failed which.Models w [] old why reads cause (omega arith) is;
  }
  asks_first why (inr none) reads cause = record {
    reads = [];
    grown = none.1 ∙ sym (append-nil old.asked);
    unasked = names.0 ∷ names.1 ∷ [];
    begins = refl;
    both = tt;
    unread = λ w is. absurd (not_unread why w none.0 is);
  }

  both_noted : mid.asked ≡ old.asked ++ noted names.0 old ∷ [] → new.asked ≡ mid.asked ++ noted names.1 mid ∷ [] → new.asked ≡ old.asked ++ (noted names.0 old ∷ noted names.1 mid ∷ [])
  both_noted first second = second ∙ ap (λ (l : List Asked). l ++ noted names.1 mid ∷ []) first ∙ append_assoc old.asked (noted names.0 old ∷ []) (noted names.1 mid ∷ [])

  pub asks_second : (models : BytesOf) (why : TextsFault) → IsNoted (◌≡◌ {A = Result BytesOf TextsFault} (Ok models) (Err Memory)) names.0 old mid → old.faults ≤ mid.faults → IsNoted (◌≡◌ {A = Result BytesOf TextsFault} (Err why) (Err Memory)) names.1 mid new
      → ReadsText which.People told names.1 (Err why) → RoseWhere (IsUnread {T = BytesOf} (Err why)) mid.faults new.faults → Asks names old new (Err why)
  asks_second models why first later (inl second) reads cause = record {
    reads = noted names.0 old ∷ noted names.1 mid ∷ [];
    grown = both_noted (was_noted models names.0 old mid first) second;
    unasked = [];
    begins = refl;
    both = tt;
    unread = λ w is. last_failed which.People w (noted names.0 old ∷ []) mid why reads cause later is;
  }
  asks_second models why first later (inr none) reads cause = record {
    reads = noted names.0 old ∷ [];
    grown = none.1 ∙ was_noted models names.0 old mid first;
    unasked = names.1 ∷ [];
    begins = refl;
    both = tt;
    unread = λ w is. absurd (not_unread why w none.0 is);
  }

  pub asks_both : (models people : BytesOf) (texts : TextsOf) → IsNoted (◌≡◌ {A = Result BytesOf TextsFault} (Ok models) (Err Memory)) names.0 old mid → IsNoted (◌≡◌ {A = Result BytesOf TextsFault} (Ok people) (Err Memory)) names.1 mid new → Asks names old new (Ok texts)
  asks_both models people texts first second = record {
    reads = noted names.0 old ∷ noted names.1 mid ∷ [];
    grown = both_noted (was_noted models names.0 old mid first) (was_noted people names.1 mid new second);
    unasked = [];
    begins = refl;
    both = refl;
    unread = λ w is. absurd (no_fault texts (Unread w) is);
  }
