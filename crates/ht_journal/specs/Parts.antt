-- An append has four parts, one call of the disk each. Where a crash comes in one of them, this is what an image of the
-- file may hold, and which bodies are found in it:
--
--   the frame is written behind the closed gate   the gate is closed, with anything behind   the bodies before
--   a sync                                        the same                                   the same
--   1 is written over the closed gate             the frame is whole, the gate is anything   these, or one more
--   a sync                                        the same                                   the same
--
-- A failure in one of the last two parts leaves a doubt, since the gate may hold 1 or may not. One in the first two
-- leaves none. Where the file is lengthened before (Ahead.antt), that is a part more, as the first two are.
use Rattle.std.specs.Prelude.{◌≡◌, ◌⊎◌, ℕ, List, [], ◌∷◌, ◌++◌, Option, Some, None, Ok}
use Rattle.ht_journal.specs.Files.{Doubts, Rests, contents}

-- the file has these bodies and no more, or it has them and the one in doubt, whose gate may hold anything
abbrev pub Stands : List (List ℕ) → Option (List ℕ) → List ℕ → Type 0
Stands bodies None file = Rests bodies file
Stands bodies (Some body) file = Doubts bodies body [] file

-- what a reader of the file finds: these bodies, or these and the one in doubt
abbrev pub Reads : List (List ℕ) → Option (List ℕ) → List ℕ → Type 0
Reads bodies None file = contents file ≡ Ok bodies
Reads bodies (Some body) file = (contents file ≡ Ok bodies) ⊎ (contents file ≡ Ok (bodies ++ body ∷ []))

-- what an image holds, with what is found in it
abbrev pub StandsAndReads : List (List ℕ) → Option (List ℕ) → List ℕ → Type 0
StandsAndReads bodies doubt image = Stands bodies doubt image × Reads bodies doubt image

-- what an image holds while this body is appended: as in the first two parts, or as in the last two
abbrev pub IsAppending : List (List ℕ) → List ℕ → List ℕ → Type 0
IsAppending bodies body image = StandsAndReads bodies None image ⊎ StandsAndReads bodies (Some body) image
