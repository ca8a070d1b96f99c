-- An Opening is appended to a journal that has no record.
use Rattle.std.proofs.Common.{◌≡◌, ◌⊎◌, inl, ℕ, List, [], ◌∷◌, take, drop, Option, Some, None, option_map, IfSome, Ok, ap, ◌∙◌, subst}
use Rattle.ht_journal.specs.Files.{contents}
use Rattle.ht_journal.specs.Keeping.{doubt_of}
use Rattle.ht_journal.specs.Parts.{Reads}
use Rattle.ht_journal.specs.declared.state.JournalState.{JournalState}
use Rattle.ht_desk.specs.Records.{Finds, spelling}
use Rattle.ht_desk.specs.Replaying.{TextsOf, opening_of}

pub no_doubt : (state : JournalState) → state.doubt ≡ None → doubt_of state ≡ None
no_doubt state e = ap (option_map (λ n. take n (drop 4 state.buffer.items))) e

-- none, or the Opening
abbrev pub FindsAtMost : TextsOf → List ℕ → Type 0
FindsAtMost texts image = Finds [] image ⊎ Finds (opening_of texts ∷ []) image

pub nothing_found : (texts : TextsOf) (doubt : Option (List ℕ)) (image : List ℕ) → doubt ≡ None → Reads [] doubt image → FindsAtMost texts image
nothing_found texts doubt image none found = inl (subst (λ (o : Option (List ℕ)). Reads [] o image) none found)

pub opening_found : (texts : TextsOf) (body image : List ℕ) → body ≡ spelling (opening_of texts) → Reads [] (Some body) image → FindsAtMost texts image
opening_found texts body image is found = subst (λ (b : List ℕ). (contents image ≡ Ok []) ⊎ (contents image ≡ Ok (b ∷ []))) is found

-- a body in doubt is the Opening's
pub doubt_found : (texts : TextsOf) (body : List ℕ) (doubt : Option (List ℕ)) (Q : List ℕ → Type 0) (image : List ℕ) → body ≡ spelling (opening_of texts) → IfSome doubt (λ d. (d ≡ body) × Q d) → Reads [] doubt image → FindsAtMost texts image
doubt_found texts body None Q image is told found = inl found
doubt_found texts body (Some d) Q image is told found = opening_found texts d image (told.0 ∙ is) found
