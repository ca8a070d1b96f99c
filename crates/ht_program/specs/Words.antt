-- The words of the command line: a command, and then its options.
use Rattle.std.specs.Prelude.{◌≡◌, ℕ, ◌-◌, ◌^◌, ◌≤◌, ◌==◌, Bool, true, false, not, ◌&&◌, List, [], ◌∷◌, Option, Some, None, IsSome, is_none, bytes_eq, codes, decimal, if◌then◌else◌, ⊤}
use Rattle.std.specs.List.{list_any}
use Rattle.ht_base.specs.Moment.{last_moment}
use Rattle.ht_desk.specs.declared.limits.TheConstants.{GREATEST_LIMIT, LEAST_LIMIT}

-- the word is this number, which has these bounds, in decimal without leading zeros
pub record IsNumber (least most : ℕ) (word : List ℕ) (n : ℕ) : Type 0 where
  pub spelled : word ≡ decimal n
  pub great : least ≤ n
  pub small : n ≤ most

-- ---- options

-- a value doesn't begin with a dash
abbrev pub is_value : List ℕ → Bool
is_value [] = true
is_value (c ∷ cs) = not (c == 45)

-- the value of the option with this name
abbrev pub value_of : List ℕ → List (List ℕ) → Option (List ℕ)
value_of name [] = None
value_of name (word ∷ []) = None
value_of name (word ∷ value ∷ words) = if bytes_eq word name then Some value else value_of name words

abbrev pub is_one_of : List (List ℕ) → List ℕ → Bool
is_one_of names word = list_any (λ name. bytes_eq name word) names

-- an option is one of these names and its value, and the name doesn't stand again
abbrev pub begin_options : List (List ℕ) → List ℕ → List ℕ → List (List ℕ) → Bool
begin_options names name value words = is_one_of names name && (is_value value && is_none (value_of name words))

-- the words are options of these names, one behind another
abbrev pub are_options : List (List ℕ) → List (List ℕ) → Bool
are_options names [] = true
are_options names (word ∷ []) = false
are_options names (name ∷ value ∷ words) = begin_options names name value words && are_options names words

-- the option with this name gives this number, which has these bounds
pub record Gives (name : List ℕ) (least most : ℕ) (options : List (List ℕ)) (n : ℕ) : Type 0 where
  pub word : List ℕ
  pub given : value_of name options ≡ Some word
  pub number : IsNumber least most word n

-- an option that may be missing: no number, where it isn't there, and else this number, which has these bounds
abbrev pub MayGive : List ℕ → ℕ → ℕ → List (List ℕ) → Option ℕ → Type 0
MayGive name least most options None = value_of name options ≡ None
MayGive name least most options (Some n) = Gives name least most options n

-- the names of a models text and of a people text, which stand together
abbrev pub AreTexts : Option (List ℕ) → Option (List ℕ) → Option (List ℕ × List ℕ) → Type 0
AreTexts None None None = ⊤
AreTexts None None (Some texts) = ⊥
AreTexts (Some models) (Some people) None = ⊥
AreTexts (Some models) (Some people) (Some texts) = (texts.0 ≡ models) × (texts.1 ≡ people)
AreTexts (Some models) None texts = ⊥
AreTexts None (Some people) texts = ⊥

-- the length that a journal may have in bytes, where none is given: in memory, and in a file of this name
abbrev pub default_limit : Option (List ℕ) → ℕ
default_limit None = 67108864
default_limit (Some name) = GREATEST_LIMIT

-- for a journal of this name, or none, and the word that is given of its length
abbrev pub IsLimitOf : Option (List ℕ) → Option (List ℕ) → ℕ → Type 0
IsLimitOf journal None limit = limit ≡ default_limit journal
IsLimitOf journal (Some word) limit = IsNumber LEAST_LIMIT GREATEST_LIMIT word limit

-- ---- the commands

-- the port at which connections are taken, how many workers serve them, how many milliseconds the timer rests between two
-- turns, and how many connections are served before the end; without that number there is none
pub record Service : Type 0 where
  pub port : ℕ
  pub workers : ℕ
  pub tick : ℕ
  pub connections : Option ℕ

-- What the program is asked to do: to serve one connection, of whose requests the first is at a moment and the others follow
-- at a pace; to serve connections over a port; to judge two texts; to write all tasks; or to make so many requests from a
-- seed.
pub data WorkOf : Type 0 where
  running : ℕ → ℕ → WorkOf
  serving : Service → WorkOf
  checking : WorkOf
  exporting : WorkOf
  loading : ℕ → ℕ → WorkOf

abbrev pub command_of : WorkOf → List ℕ
command_of (running from step) = codes "run"
command_of (serving service) = codes "serve"
command_of checking = codes "check"
command_of exporting = codes "export"
command_of (loading seed count) = codes "load"

-- the options that a command may have
abbrev pub options_of : WorkOf → List (List ℕ)
options_of (running from step) = codes "--from" ∷ codes "--step" ∷ codes "--models" ∷ codes "--people" ∷ codes "--journal" ∷ codes "--limit" ∷ []
options_of (serving service) =
    codes "--journal" ∷ codes "--port" ∷ codes "--workers" ∷ codes "--tick" ∷ codes "--models" ∷ codes "--people" ∷ codes "--connections" ∷ codes "--limit" ∷ []
options_of checking = codes "--models" ∷ codes "--people" ∷ []
options_of exporting = codes "--journal" ∷ codes "--models" ∷ codes "--people" ∷ []
options_of (loading seed count) = codes "--seed" ∷ codes "--count" ∷ codes "--journal" ∷ codes "--limit" ∷ []

-- the most requests of one load
abbrev pub most_loaded : ℕ
most_loaded = 1048576

-- the greatest number of a port
abbrev pub greatest_port : ℕ
greatest_port = 65535

-- the most workers of one office
abbrev pub most_workers : ℕ
most_workers = 64

-- the longest tick, in milliseconds: one hour
abbrev pub longest_tick : ℕ
longest_tick = 3600000

-- the most connections that are served before the end
abbrev pub most_connections : ℕ
most_connections = 1000000

-- what the options say of a service
pub record IsService (options : List (List ℕ)) (service : Service) : Type 0 where
  pub port : Gives (codes "--port") 1 greatest_port options service.port
  pub workers : Gives (codes "--workers") 1 most_workers options service.workers
  pub tick : Gives (codes "--tick") 1 longest_tick options service.tick
  pub connections : MayGive (codes "--connections") 1 most_connections options service.connections

-- the options that a command must have, and what they say of its work
abbrev pub IsSaidBy : List (List ℕ) → WorkOf → Type 0
IsSaidBy options (running from step) = Gives (codes "--from") 0 last_moment options from × Gives (codes "--step") 0 last_moment options step
IsSaidBy options (serving service) = IsSome (value_of (codes "--journal") options) × IsService options service
IsSaidBy options checking = IsSome (value_of (codes "--models") options) × IsSome (value_of (codes "--people") options)
IsSaidBy options exporting = IsSome (value_of (codes "--journal") options)
IsSaidBy options (loading seed count) = Gives (codes "--seed") 0 (2 ^ 64 - 1) options seed × Gives (codes "--count") 0 most_loaded options count

-- a command with options of its own, in any order
pub record IsAsked (command : List ℕ) (options : List (List ℕ)) (work : WorkOf) : Type 0 where
  pub named : command ≡ command_of work
  pub allowed : are_options (options_of work) options ≡ true
  pub said : IsSaidBy options work

-- What all words say: the work, the names of the two texts of the office, the name of its journal and the length in bytes
-- that this may have. Without names it is the built-in office, and without a journal it is kept in memory.
pub record WordsOf : Type 0 where
  pub work : WorkOf
  pub texts : Option (List ℕ × List ℕ)
  pub journal : Option (List ℕ)
  pub limit : ℕ

-- a command and its options
pub record AreWords (words : List (List ℕ)) (said : WordsOf) : Type 0 where
  pub command : List ℕ
  pub options : List (List ℕ)
  pub words_are : words ≡ command ∷ options
  pub work_is : IsAsked command options said.work
  pub texts_are : AreTexts (value_of (codes "--models") options) (value_of (codes "--people") options) said.texts
  pub journal_is : value_of (codes "--journal") options ≡ said.journal
  pub limit_is : IsLimitOf said.journal (value_of (codes "--limit") options) said.limit

-- ---- without waiting

-- which works end without waiting for anybody: all but to serve connections over a port
abbrev pub IsAlone : WorkOf → Type 0
IsAlone (running from step) = Unit {0}
IsAlone (serving service) = ⊥
IsAlone checking = Unit {0}
IsAlone exporting = Unit {0}
IsAlone (loading seed count) = Unit {0}

-- the words aren't those of `serve`
abbrev pub AreAlone : List (List ℕ) → Type 0
AreAlone words = (rest : List (List ℕ)) → words ≡ codes "serve" ∷ rest → ⊥
