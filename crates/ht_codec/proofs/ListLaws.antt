-- What is known of lists of items, from the form of an item.
use Rattle.std.proofs.Common.{◌≡◌, ℕ, zero, suc, List, [], ◌∷◌, ◌++◌, length, Ok, Err, refl, sym, ap, subst, ◌∙◌, append_assoc}
use Rattle.std.specs.List.{flat_map}
use Rattle.std.proofs.lemmas.List.{append-nil}
use Rattle.std.proofs.lemmas.List.Concat.{flat_map-cons}
use Rattle.ht_codec.specs.Forms.{Form, ItemsFit, ItemsFail, read_items, listed}
use Rattle.ht_codec.specs.Records.{IsBytes}
use Rattle.ht_codec.specs.Reading.{Reading}
use Rattle.ht_codec.specs.declared.refusal.CodecRefusal.{CodecRefusal}
use Rattle.ht_codec.specs.declared.refusal.CodecRefusal.TheVariants.{Memory, Short}
use Rattle.ht_codec.proofs.Steps.{IsBytes-behind, no_cut, ok_is, bind_ok}
use Rattle.ht_codec.proofs.FormLaws.{IsLawful, first_cut, first_failing, first_fails, first_told}

-- what is known of the form of an item: its spelling doesn't depend on the items in front
pub record AreLawful {X : Type 0} (item : List X → Form X) : Type 0 where
  pub each : (front : List X) → IsLawful (item front)
  pub same : (front : List X) (x : X) → (item front).text x ≡ (item []).text x

-- what n items behind others are
pub record Items {X : Type 0} (item : List X → Form X) (n : ℕ) (front : List X) (left : List ℕ) (z : List X × List ℕ) : Type 0 where
  pub more : List X
  pub whole : z.0 ≡ front ++ more
  pub count : length more ≡ n
  pub fit : ItemsFit item front more
  pub text : left ≡ flat_map (item []).text more ++ z.1

items_take : {X : Type 0} (item : List X → Form X) → AreLawful item → (n : ℕ) (front : List X) (whole : ℕ) (left : List ℕ) (z : List X × List ℕ) → IsBytes left → read_items item n front whole left ≡ Ok z → Items item n front left z
unfolding read_items
items_take {X} item li zero front whole left z are e =
    subst (λ (y : List X × List ℕ). Items item 0 front left y) (ok_is (front, left) z e) (record { more = []; whole = sym (append-nil front); count = refl; fit = tt; text = refl })
items_take {X} item li (suc n) front whole left z are e =
    let p = bind_ok ((item front).read whole left) (λ x. read_items item n (front ++ x.0 ∷ []) whole x.1) z e in
    let s = (li.each front).takes whole left p.0 are p.1 in
    let r = items_take item li n (front ++ p.0.0 ∷ []) whole p.0.1 z (IsBytes-behind ((item front).text p.0.0) p.0.1 left s.1 are) p.2 in
    let one : (item []).text p.0.0 ++ flat_map (item []).text r.more ≡ flat_map (item []).text (p.0.0 ∷ r.more) = sym (flat_map-cons (item []).text p.0.0 r.more) in
    let parts : left ≡ (item []).text p.0.0 ++ (flat_map (item []).text r.more ++ z.1) = s.1 ∙ ap (λ (l : List ℕ). l ++ p.0.1) (li.same front p.0.0) ∙ ap (λ (l : List ℕ). (item []).text p.0.0 ++ l) r.text in
    record {
      more = p.0.0 ∷ r.more;
      whole = r.whole ∙ append_assoc front (p.0.0 ∷ []) r.more;
      count = ap suc r.count;
      fit = (s.0, r.fit);
      text = parts ∙ sym (append_assoc ((item []).text p.0.0) (flat_map (item []).text r.more) z.1) ∙ ap (λ (l : List ℕ). l ++ z.1) one;
    }

items_again : {X : Type 0} (item : List X → Form X) → AreLawful item → (front : List X) (whole : ℕ) (xs : List X) (rest : List ℕ) → ItemsFit item front xs → read_items item (length xs) front whole (flat_map (item []).text xs ++ rest) ≡ Ok (front ++ xs, rest)
unfolding read_items
items_again {X} item li front whole [] rest fits = ap (λ (l : List X). Ok (l, rest)) (sym (append-nil front))
items_again {X} item li front whole (x ∷ xs) rest fits =
    let regrouped : flat_map (item []).text (x ∷ xs) ++ rest ≡ (item front).text x ++ (flat_map (item []).text xs ++ rest) = ap (λ (l : List ℕ). l ++ rest) (flat_map-cons (item []).text x xs) ∙ append_assoc ((item []).text x) (flat_map (item []).text xs) rest ∙ ap (λ (l : List ℕ). l ++ (flat_map (item []).text xs ++ rest)) (sym (li.same front x)) in
    let next : read_items item (length xs) (front ++ x ∷ []) whole (flat_map (item []).text xs ++ rest) ≡ Ok (front ++ x ∷ xs, rest) = items_again item li (front ++ x ∷ []) whole xs rest fits.1 ∙ ap (λ (l : List X). Ok (l, rest)) (append_assoc front (x ∷ []) xs) in
    ap (read_items item (suc (length xs)) front whole) regrouped ∙ rw ((li.each front).again whole x (flat_map (item []).text xs ++ rest) fits.0) next

items_cut : {X : Type 0} (item : List X → Form X) → AreLawful item → (front : List X) (whole : ℕ) (xs : List X) (bytes : List ℕ) (c : ℕ) (more : List ℕ) → ItemsFit item front xs → flat_map (item []).text xs ≡ bytes ++ c ∷ more → read_items item (length xs) front whole bytes ≡ Err (Short whole)
unfolding read_items
items_cut {X} item li front whole [] bytes c more fits e = absurd (no_cut bytes c more e)
items_cut {X} item li front whole (x ∷ xs) bytes c more fits e =
    let parts : (item front).text x ++ flat_map (item []).text xs ≡ bytes ++ c ∷ more = ap (λ (l : List ℕ). l ++ flat_map (item []).text xs) (li.same front x) ∙ sym (flat_map-cons (item []).text x xs) ∙ e in
    first_cut (item front) (li.each front) (λ y. read_items item (length xs) (front ++ y.0 ∷ []) whole y.1) whole x (flat_map (item []).text xs) bytes c more fits.0 parts (λ kept cut. items_cut item li (front ++ x ∷ []) whole xs kept c more fits.1 cut)

items_fail : {X : Type 0} (item : List X → Form X) → AreLawful item → (n : ℕ) (front : List X) (whole : ℕ) (left : List ℕ) (e : CodecRefusal) → IsBytes left → read_items item n front whole left ≡ Err e → ItemsFail item n front whole left e
unfolding read_items ItemsFail
items_fail {X} item li zero front whole left e are h = absurd cc
items_fail {X} item li (suc n) front whole left e are h =
    first_fails (item front) (li.each front) (λ x. read_items item n (front ++ x.0 ∷ []) whole x.1) (λ x rest. ItemsFail item n (front ++ x ∷ []) whole rest e) whole left e are (λ x rest are h. items_fail item li n (front ++ x ∷ []) whole rest e are h) h

items_failing : {X : Type 0} (item : List X → Form X) → AreLawful item → (n : ℕ) (front : List X) (whole : ℕ) (left : List ℕ) (e : CodecRefusal) → ItemsFail item n front whole left e → read_items item n front whole left ≡ Err e
unfolding read_items ItemsFail
items_failing {X} item li zero front whole left e h = absurd h
items_failing {X} item li (suc n) front whole left e h =
    first_failing (item front) (li.each front) (λ x. read_items item n (front ++ x.0 ∷ []) whole x.1) (λ x rest. ItemsFail item n (front ++ x ∷ []) whole rest e) whole left e (λ x rest h. items_failing item li n (front ++ x ∷ []) whole rest e h) h

items_told : {X : Type 0} (item : List X → Form X) → AreLawful item → (n : ℕ) (front : List X) (whole : ℕ) (left : List ℕ) → read_items item n front whole left ≡ Err Memory → ⊥
unfolding read_items
items_told {X} item li zero front whole left h = cc
items_told {X} item li (suc n) front whole left h =
    first_told (item front) (li.each front) (λ x. read_items item n (front ++ x.0 ∷ []) whole x.1) whole left (λ x rest h. items_told item li n (front ++ x ∷ []) whole rest h) h

pub listed_lawful : {X : Type 0} (count : Form ℕ) (item : List X → Form X) → IsLawful count → AreLawful item → IsLawful (listed count item)
listed_lawful {X} count item lc li = record {
  takes = list_takes;
  again = list_again;
  cut = λ whole xs front c more fits e. first_cut count lc (items_of whole) whole (length xs) (flat_map (item []).text xs) front c more fits.0 e (λ kept cut. items_cut item li [] whole xs kept c more fits.1 cut);
  fails = λ whole left e are h. first_fails count lc (items_of whole) (λ n rest. ItemsFail item n [] whole rest e) whole left e are (λ n rest are h. items_fail item li n [] whole rest e are h) h;
  failing = λ whole left e h. first_failing count lc (items_of whole) (λ n rest. ItemsFail item n [] whole rest e) whole left e (λ n rest h. items_failing item li n [] whole rest e h) h;
  told = λ whole left h. first_told count lc (items_of whole) whole left (λ n rest h. items_told item li n [] whole rest h) h;
}
  where
    items_of : ℕ → ℕ × List ℕ → Reading (List X)
    items_of whole n = read_items item n.0 [] whole n.1

    list_takes : (whole : ℕ) (left : List ℕ) (z : List X × List ℕ) → IsBytes left → (listed count item).read whole left ≡ Ok z → (count.Fits (length z.0) × ItemsFit item [] z.0) × (left ≡ (count.text (length z.0) ++ flat_map (item []).text z.0) ++ z.1)
    list_takes whole left z are e =
        let p = bind_ok (count.read whole left) (λ n. read_items item n.0 [] whole n.1) z e in
        let s = lc.takes whole left p.0 are p.1 in
        let r = items_take item li p.0.0 [] whole p.0.1 z (IsBytes-behind (count.text p.0.0) p.0.1 left s.1 are) p.2 in
        let n : p.0.0 ≡ length z.0 = sym (ap length r.whole ∙ r.count) in
        let t : count.Fits (length z.0) × (left ≡ count.text (length z.0) ++ p.0.1) = subst (λ (k : ℕ). count.Fits k × (left ≡ count.text k ++ p.0.1)) n s in
        let behind : p.0.1 ≡ flat_map (item []).text z.0 ++ z.1 = r.text ∙ ap (λ (xs : List X). flat_map (item []).text xs ++ z.1) (sym r.whole) in
        ((t.0, subst (λ (xs : List X). ItemsFit item [] xs) (sym r.whole) r.fit), t.1 ∙ ap (λ (l : List ℕ). count.text (length z.0) ++ l) behind ∙ sym (append_assoc (count.text (length z.0)) (flat_map (item []).text z.0) z.1))

    list_again : (whole : ℕ) (xs : List X) (rest : List ℕ) → count.Fits (length xs) × ItemsFit item [] xs → (listed count item).read whole ((count.text (length xs) ++ flat_map (item []).text xs) ++ rest) ≡ Ok (xs, rest)
    list_again whole xs rest fits =
        rw (append_assoc (count.text (length xs)) (flat_map (item []).text xs) rest, lc.again whole (length xs) (flat_map (item []).text xs ++ rest) fits.0) (items_again item li [] whole xs rest fits.1)
