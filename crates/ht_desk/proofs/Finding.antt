-- The bodies of records, and what a reader finds.
use Rattle.std.proofs.Common.{◌≡◌, ◌⊎◌, inl, inr, ⊎_elim, ℕ, List, [], ◌∷◌, ◌++◌, length, Option, Some, None, Ok, option_map, is_some, Bool, true, false, ap, sym, ◌∙◌, subst, refl, arith}
use Rattle.ht_base.specs.Records.{RecordOf}
use Rattle.ht_journal.specs.Parts.{Reads}
use Rattle.ht_desk.specs.Records.{AreSpelled, Finds, FindsAlso, IsSpelled, bodies_of, spelling}

pub bodies_push : (records : List RecordOf) (r : RecordOf) → bodies_of (records ++ r ∷ []) ≡ bodies_of records ++ spelling r ∷ []
bodies_push [] r = refl
bodies_push (x ∷ records) r = ap (λ l. spelling x ∷ l) (bodies_push records r)

pub spelled_push : (records : List RecordOf) (r : RecordOf) → AreSpelled records → IsSpelled r → AreSpelled (records ++ r ∷ [])
spelled_push [] r all fits = (fits, tt)
spelled_push (x ∷ records) r all fits = (all.0, spelled_push records r all.1 fits)

pub as_many : (records : List RecordOf) → length (bodies_of records) ≡ length records
as_many [] = refl
as_many (x ∷ records) = let e = as_many records in omega arith

-- ---- with a record in doubt

-- the bodies that are read are spellings of the records, or of these and the one in doubt
reads_finds : (records : List RecordOf) (doubt : Option RecordOf) (image : List ℕ) → Reads (bodies_of records) (option_map spelling doubt) image → Finds records image ⊎ FindsAlso records doubt image
reads_finds records None image found = inl found
reads_finds records (Some r) image found = ⊎_elim (λ was. inl was) (λ more. inr (more ∙ ap Ok (sym (bodies_push records r)))) found

pub reads_by : (records : List RecordOf) (doubt : Option RecordOf) (body : Option (List ℕ)) (image : List ℕ) → body ≡ option_map spelling doubt → Reads (bodies_of records) body image → Finds records image ⊎ FindsAlso records doubt image
reads_by records doubt body image is found = reads_finds records doubt image (subst (λ (b : Option (List ℕ)). Reads (bodies_of records) b image) is found)

-- nothing is in doubt
pub certain_finds : (records : List RecordOf) (doubt : Option RecordOf) (image : List ℕ) → doubt ≡ None → Finds records image ⊎ FindsAlso records doubt image → Finds records image
certain_finds records None image none found = ⊎_elim (λ f. f) (λ f. absurd f) found
certain_finds records (Some r) image none found = absurd (cc)

pub none_by : (o : Option RecordOf) → None ≡ option_map spelling o → o ≡ None
none_by None e = refl
none_by (Some r) e = absurd (cc)

pub some_by : (o : Option RecordOf) (body : Option (List ℕ)) (b : Bool) → b ≡ is_some body → b ≡ true → body ≡ option_map spelling o → (r : RecordOf) × (o ≡ Some r)
some_by None body b is there same = absurd (let e : false ≡ true = sym (is ∙ ap is_some same) ∙ there in cc)
some_by (Some r) body b is there same = (r, refl)

pub none_when : (o : Option RecordOf) (body : Option (List ℕ)) (b : Bool) → b ≡ is_some body → b ≡ false → body ≡ option_map spelling o → o ≡ None
none_when None body b is away same = refl
none_when (Some r) body b is away same = absurd (let e : true ≡ false = sym (is ∙ ap is_some same) ∙ away in cc)
