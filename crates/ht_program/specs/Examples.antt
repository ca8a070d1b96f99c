-- Worked examples of the definitions. A wrong reading of one fails the check.
use Rattle.std.specs.Prelude.{◌≡◌, refl, ℕ, List, [], ◌∷◌, ◌-◌, ◌^◌, Option, None, Some, Ok, codes, false, true}
use Rattle.std.specs.Fmt.{digits}
use Rattle.std.proofs.Common.{arith, lit≤}
use Rattle.std.proofs.lemmas.Bool.{false≢true}
use Rattle.ht_desk.specs.declared.fault.OpenFault.TheVariants.{Damaged, People, RecordRefused, Store, TextsDiffer}
use Rattle.ht_people.specs.declared.refusal.PeopleRefusal.TheVariants.{Cycle, Limit}
use Rattle.ht_serve.specs.declared.ending.Ending.TheVariants as ending
use Rattle.ht_program.specs.declared.reading.TextsFault.TheVariants.{TooLong, Unread}
use Rattle.ht_program.specs.declared.reading.Which.TheVariants as which
use Rattle.ht_program.specs.Checking.{counted_line}
use Rattle.ht_program.specs.Statuses.{end_status, fault_line, fault_status, missing_line}
use Rattle.ht_program.specs.Words.{AreAlone, AreWords, IsNumber, IsSaidBy, MayGive, Service, are_options, default_limit, greatest_port, longest_tick, most_connections, most_loaded, most_workers, options_of, value_of}
use Rattle.ht_program.specs.Words.WorkOf.{checking, exporting, loading, running, serving}
use Rattle.ht_program.specs.Working.{Writes}

-- ---- words

options_in_any_order : are_options (options_of (running 0 1)) (codes "--people" ∷ codes "p" ∷ codes "--from" ∷ codes "0" ∷ codes "--models" ∷ codes "" ∷ codes "--step" ∷ codes "1" ∷ []) ≡ true
options_in_any_order = refl

an_option_twice : are_options (options_of (running 0 0)) (codes "--from" ∷ codes "0" ∷ codes "--from" ∷ codes "0" ∷ []) ≡ false
an_option_twice = refl

a_value_with_a_dash : are_options (options_of (running 0 0)) (codes "--models" ∷ codes "-m" ∷ []) ≡ false
a_value_with_a_dash = refl

an_option_without_a_value : are_options (options_of (running 0 0)) (codes "--from" ∷ codes "0" ∷ codes "--step" ∷ []) ≡ false
an_option_without_a_value = refl

the_value_of_an_option : value_of (codes "--step") (codes "--from" ∷ codes "0" ∷ codes "--step" ∷ codes "1" ∷ []) ≡ Some (codes "1")
the_value_of_an_option = refl

a_journal_and_its_limit : are_options (options_of (running 0 0)) (codes "--limit" ∷ codes "1048576" ∷ codes "--journal" ∷ codes "j" ∷ []) ≡ true
a_journal_and_its_limit = refl

two_journals : are_options (options_of (running 0 0)) (codes "--journal" ∷ codes "a" ∷ codes "--journal" ∷ codes "b" ∷ []) ≡ false
two_journals = refl

a_journal_without_a_name : are_options (options_of (running 0 0)) (codes "--from" ∷ codes "0" ∷ codes "--journal" ∷ []) ≡ false
a_journal_without_a_name = refl

a_seed_of_a_run : are_options (options_of (running 0 0)) (codes "--seed" ∷ codes "0" ∷ []) ≡ false
a_seed_of_a_run = refl

the_people_before_the_models : are_options (options_of checking) (codes "--people" ∷ codes "p" ∷ codes "--models" ∷ codes "m" ∷ []) ≡ true
the_people_before_the_models = refl

a_step_of_a_check : are_options (options_of checking) (codes "--models" ∷ codes "m" ∷ codes "--people" ∷ codes "p" ∷ codes "--step" ∷ codes "0" ∷ []) ≡ false
a_step_of_a_check = refl

a_journal_of_a_check : are_options (options_of checking) (codes "--journal" ∷ codes "j" ∷ codes "--models" ∷ codes "m" ∷ codes "--people" ∷ codes "p" ∷ []) ≡ false
a_journal_of_a_check = refl

a_check_without_texts : IsSaidBy [] checking → ⊥
a_check_without_texts said = false≢true said.0

a_check_of_one_text : IsSaidBy (codes "--models" ∷ codes "m" ∷ []) checking → ⊥
a_check_of_one_text said = false≢true said.1

an_export_in_any_order : are_options (options_of exporting) (codes "--people" ∷ codes "p" ∷ codes "--journal" ∷ codes "j" ∷ codes "--models" ∷ codes "m" ∷ []) ≡ true
an_export_in_any_order = refl

a_limit_of_an_export : are_options (options_of exporting) (codes "--journal" ∷ codes "j" ∷ codes "--limit" ∷ codes "1048576" ∷ []) ≡ false
a_limit_of_an_export = refl

an_export_without_a_journal : IsSaidBy (codes "--models" ∷ codes "m" ∷ codes "--people" ∷ codes "p" ∷ []) exporting → ⊥
an_export_without_a_journal said = false≢true said

a_load_in_any_order : are_options (options_of (loading 7 1)) (codes "--limit" ∷ codes "1048576" ∷ codes "--count" ∷ codes "1" ∷ codes "--journal" ∷ codes "j" ∷ codes "--seed" ∷ codes "7" ∷ []) ≡ true
a_load_in_any_order = refl

models_of_a_load : are_options (options_of (loading 7 1)) (codes "--seed" ∷ codes "7" ∷ codes "--count" ∷ codes "1" ∷ codes "--models" ∷ codes "m" ∷ []) ≡ false
models_of_a_load = refl

a_load_without_a_count : IsSaidBy (codes "--seed" ∷ codes "7" ∷ []) (loading 7 0) → ⊥
a_load_without_a_count said = let given = (said.1).given in absurd (cc)

-- the greatest seed and the greatest count, in memory
the_words_of_a_load : AreWords (codes "load" ∷ codes "--count" ∷ codes "1048576" ∷ codes "--seed" ∷ codes "18446744073709551615" ∷ []) (record { work = loading (2 ^ 64 - 1) most_loaded; texts = None; journal = None; limit = 67108864 })
unfolding digits
the_words_of_a_load = record {
  command = codes "load";
  options = codes "--count" ∷ codes "1048576" ∷ codes "--seed" ∷ codes "18446744073709551615" ∷ [];
  words_are = refl;
  work_is = record {
    named = refl;
    allowed = refl;
    said = (
      record { word = codes "18446744073709551615"; given = refl; number = record { spelled = refl; great = lit≤ tt; small = lit≤ tt } },
      record { word = codes "1048576"; given = refl; number = record { spelled = refl; great = lit≤ tt; small = lit≤ tt } },
    );
  };
  texts_are = tt;
  journal_is = refl;
  limit_is = refl;
}

-- an export of the built-in office opens its journal with the greatest limit
the_words_of_an_export : AreWords (codes "export" ∷ codes "--journal" ∷ codes "j" ∷ []) (record { work = exporting; texts = None; journal = Some (codes "j"); limit = 4294967296 })
the_words_of_an_export = record {
  command = codes "export";
  options = codes "--journal" ∷ codes "j" ∷ [];
  words_are = refl;
  work_is = record { named = refl; allowed = refl; said = refl };
  texts_are = tt;
  journal_is = refl;
  limit_is = refl;
}

a_limit_in_memory : default_limit None ≡ 67108864
a_limit_in_memory = refl

a_limit_in_a_file : default_limit (Some (codes "j")) ≡ 4294967296
a_limit_in_a_file = refl

-- ---- words of a service

abbrev one_service : Service
one_service = record { port = 80; workers = 2; tick = 250; connections = None }

a_service_in_any_order : are_options (options_of (serving one_service)) (codes "--tick" ∷ codes "250" ∷ codes "--people" ∷ codes "p" ∷ codes "--connections" ∷ codes "9" ∷ codes "--port" ∷ codes "80" ∷ codes "--limit" ∷ codes "1048576" ∷ codes "--journal" ∷ codes "j" ∷ codes "--models" ∷ codes "m" ∷ codes "--workers" ∷ codes "2" ∷ []) ≡ true
a_service_in_any_order = refl

two_ports : are_options (options_of (serving one_service)) (codes "--port" ∷ codes "80" ∷ codes "--port" ∷ codes "81" ∷ []) ≡ false
two_ports = refl

a_step_of_a_service : are_options (options_of (serving one_service)) (codes "--step" ∷ codes "0" ∷ []) ≡ false
a_step_of_a_service = refl

a_port_of_a_run : are_options (options_of (running 0 0)) (codes "--port" ∷ codes "80" ∷ []) ≡ false
a_port_of_a_run = refl

a_service_without_a_journal : IsSaidBy (codes "--port" ∷ codes "80" ∷ codes "--workers" ∷ codes "2" ∷ codes "--tick" ∷ codes "250" ∷ []) (serving one_service) → ⊥
a_service_without_a_journal said = false≢true said.0

a_service_without_a_port : IsSaidBy (codes "--journal" ∷ codes "j" ∷ codes "--workers" ∷ codes "2" ∷ codes "--tick" ∷ codes "250" ∷ []) (serving one_service) → ⊥
a_service_without_a_port said = let given = ((said.1).port).given in absurd (cc)

port_0 : IsNumber 1 greatest_port (codes "0") 0 → ⊥
port_0 is = let great = is.great in absurd (omega (arith, great))

the_greatest_port : IsNumber 1 greatest_port (codes "65535") 65535
unfolding digits
the_greatest_port = record { spelled = refl; great = lit≤ tt; small = lit≤ tt }

a_port_beyond : IsNumber 1 greatest_port (codes "65536") 65536 → ⊥
a_port_beyond is = let small = is.small in absurd (omega (arith, small))

no_workers : IsNumber 1 most_workers (codes "0") 0 → ⊥
no_workers is = let great = is.great in absurd (omega (arith, great))

too_many_workers : IsNumber 1 most_workers (codes "65") 65 → ⊥
too_many_workers is = let small = is.small in absurd (omega (arith, small))

a_leading_zero : IsNumber 1 most_workers (codes "08") 8 → ⊥
unfolding digits
a_leading_zero is = let wrong : ◌≡◌ {A = List ℕ} (codes "08") (codes "8") = is.spelled in absurd (cc)

no_connections_told : MayGive (codes "--connections") 1 most_connections (codes "--port" ∷ codes "80" ∷ []) None
no_connections_told = refl

connections_that_are_not_told : MayGive (codes "--connections") 1 most_connections (codes "--port" ∷ codes "80" ∷ []) (Some 80) → ⊥
connections_that_are_not_told gives = let given = gives.given in absurd (cc)

connections_that_are_told : MayGive (codes "--connections") 1 most_connections (codes "--connections" ∷ codes "9" ∷ []) None → ⊥
connections_that_are_told none = absurd (let wrong : ◌≡◌ {A = Option (List ℕ)} (Some (codes "9")) None = none in cc)

-- a service of the built-in office that ends after one connection
the_words_of_a_service : AreWords (codes "serve" ∷ codes "--workers" ∷ codes "64" ∷ codes "--port" ∷ codes "80" ∷ codes "--journal" ∷ codes "j" ∷ codes "--connections" ∷ codes "1" ∷ codes "--tick" ∷ codes "3600000" ∷ [])
    (record { work = serving (record { port = 80; workers = most_workers; tick = longest_tick; connections = Some 1 }); texts = None; journal = Some (codes "j"); limit = 4294967296 })
unfolding digits
the_words_of_a_service = record {
  command = codes "serve";
  options = codes "--workers" ∷ codes "64" ∷ codes "--port" ∷ codes "80" ∷ codes "--journal" ∷ codes "j" ∷ codes "--connections" ∷ codes "1" ∷ codes "--tick" ∷ codes "3600000" ∷ [];
  words_are = refl;
  work_is = record {
    named = refl;
    allowed = refl;
    said = (
      refl,
      record {
        port = record { word = codes "80"; given = refl; number = record { spelled = refl; great = lit≤ tt; small = lit≤ tt } };
        workers = record { word = codes "64"; given = refl; number = record { spelled = refl; great = lit≤ tt; small = lit≤ tt } };
        tick = record { word = codes "3600000"; given = refl; number = record { spelled = refl; great = lit≤ tt; small = lit≤ tt } };
        connections = record { word = codes "1"; given = refl; number = record { spelled = refl; great = lit≤ tt; small = lit≤ tt } };
      },
    );
  };
  texts_are = tt;
  journal_is = refl;
  limit_is = refl;
}

words_without_waiting : AreAlone (codes "run" ∷ codes "serve" ∷ [])
words_without_waiting rest is = absurd (cc)

words_that_wait : AreAlone (codes "serve" ∷ []) → ⊥
words_that_wait alone = alone [] refl

-- ---- lines

a_cycle : fault_line (People (Cycle 5)) ≡ codes "people: Cycle 5\n"
unfolding digits
a_cycle = refl

a_limit_without_place : fault_line (People Limit) ≡ codes "people: Limit\n"
a_limit_without_place = refl

a_long_text : missing_line (codes "m", codes "p") (TooLong which.Models) ≡ codes "models: TooLong\n"
a_long_text = refl

an_unread_text : missing_line (codes "m.toml", codes "p.toml") (Unread which.People) ≡ codes "texts: p.toml\n"
an_unread_text = refl

a_damaged_journal : fault_line (Damaged 450) ≡ codes "journal: damaged at 450\n"
unfolding digits
a_damaged_journal = refl

a_record_that_does_not_belong : fault_line (RecordRefused 2) ≡ codes "journal: record 2\n"
unfolding digits
a_record_that_does_not_belong = refl

a_journal_of_other_texts : fault_line TextsDiffer ≡ codes "journal: texts differ\n"
a_journal_of_other_texts = refl

a_disk_that_fails : fault_line Store ≡ codes "journal: store\n"
a_disk_that_fails = refl

what_a_check_tells : counted_line (record { models = 10; persons = 5; groups = 1 }) ≡ codes "models 10 persons 5 groups 1\n"
unfolding digits
what_a_check_tells = refl

an_office_without_people : counted_line (record { models = 1; persons = 0; groups = 0 }) ≡ codes "models 1 persons 0 groups 0\n"
unfolding digits
an_office_without_people = refl

-- ---- texts that are written

all_of_a_text : Writes (codes "ab") (Some (codes "x")) (Some (codes "xab")) ending.Done
all_of_a_text = refl

less_than_a_text : Writes (codes "ab") (Some []) (Some (codes "a")) ending.Done → ⊥
less_than_a_text all = absurd (let wrong : ◌≡◌ {A = List ℕ} (codes "a") (codes "ab") = all in cc)

a_text_that_breaks_off : Writes (codes "ab") (Some []) (Some (codes "a")) ending.WriteFault
a_text_that_breaks_off = (codes "a", codes "b", refl, refl)

-- ---- statuses

the_status_of_a_damaged_journal : fault_status (Damaged 450) ≡ 5
the_status_of_a_damaged_journal = refl

the_status_of_a_disk_that_fails : fault_status Store ≡ 6
the_status_of_a_disk_that_fails = refl

the_status_of_a_text_that_breaks_off : end_status (Ok ending.WriteFault) ≡ 7
the_status_of_a_text_that_breaks_off = refl
