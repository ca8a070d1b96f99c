-- Which document a text is (TOML 1.1, as `toml` reads it).
use Rattle.std.specs.Prelude.{◌≡◌, ℕ, List, Option, Some}
use Rattle.std.specs.Str.{IsUtf8}
use Rattle.toml.specs.Data.{Members}
use Rattle.toml.specs.Parse.{parse_document}

abbrev pub IsDocument : List ℕ → Members → Type 0
IsDocument text ms = IsUtf8 text × (parse_document text ≡ Some ms)

-- the text is a document that has this shape, and says this
abbrev pub Says : {X : Type 0} → (Members → Option X) → List ℕ → X → Type 0
Says shape text x = (ms : Members) × IsDocument text ms × (shape ms ≡ Some x)
