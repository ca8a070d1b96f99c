use Rattle.std.proofs.Common.{◌≡◌, ◌≢◌, ◌⊎◌, ◌∙◌, ℕ, List, String, Global, None, Some, map, ap, sym, subst, refl, inl, inr, ⊎_elim, arith}
use Rattle.ht_outside.specs.Causes.{Rose}
use Rattle.ht_program.specs.Named.{words_told}
use Rattle.ht_program.specs.Words.{AreWords, IsAlone, WordsOf}
use Rattle.ht_program.proofs.PublicLaws.{built_in, bytes_of, no_names, one_reading}
use Rattle.ht_server.specs.Services.{OfficeRuns}
use Rattle.ht_server.proofs.Said.{alone, named, not_alone}
use Rattle.ht_server.proofs.Statuses.{below_ten, runs_answered, runs_as_said, runs_broke, runs_built_in, runs_door, runs_journal, runs_not_two, runs_store, runs_wrong}
use Rattle.ht_server.proofs.top_call.office.Goals as goal

abbrev IsSaid : WordsOf → List (String Global) → Type 0
IsSaid said ws = AreWords (map bytes_of ws) said

-- what other words are read as is the same
same : (words read : List (String Global)) (mine said : WordsOf) → words ≡ read → IsSaid mine words → IsSaid said read → mine ≡ said
same words read mine said is own other = one_reading (map bytes_of read) mine said (subst (IsSaid mine) is own) other

-- ---- words of one thread

pub returns-then-are_alone-clause-work : goal.returns-then-are_alone-clause-work
returns-then-are_alone-clause-work g c = λ more. let w = c.office_alone.ensures.work more in (w.0, w.1, inl (w.2, refl))

pub returns-then-are_alone-clause-unread_input : goal.returns-then-are_alone-clause-unread_input
returns-then-are_alone-clause-unread_input g c = λ said is asks. ⊎_elim (λ reports. c.office_alone.ensures.unread_input said is reports) (λ waits. absurd (waits (alone _ said (c.are_alone.ensures.yes c.if-are_alone.true) is))) asks

pub returns-then-are_alone-clause-complete : goal.returns-then-are_alone-clause-complete
returns-then-are_alone-clause-complete g c = λ said is texts first second door reads writes. c.office_alone.ensures.complete said is texts first second reads writes

pub returns-then-are_alone-clause-alone : goal.returns-then-are_alone-clause-alone
returns-then-are_alone-clause-alone g c = λ said is one. (refl, (λ ten. let w = c.office_alone.ensures.work (λ two. absurd (omega (arith, ten, two))) in below_ten g.D.Disk w.0 _ _ _ _ _ w.2 ten))

-- ---- a service

pub serve_office-requires-clause-journal : goal.serve_office-requires-clause-journal
serve_office-requires-clause-journal g c κs within = named _ _ (words_told c.in-Some.words) (c.are_alone.ensures.no c.if-are_alone.false).1 (subst (IsSaid (words_told c.in-Some.words)) c.deref.ensures.value c.in-Some.ensures.some)

pub returns-in-Some-clause-usage : goal.returns-in-Some-clause-usage
returns-in-Some-clause-usage g c = ((λ two. absurd (runs_not_two g.D.Disk _ _ _ _ _ _ _ _ (c.serve_office.ensures.office (g.S.Source.source_state c.args.input.now)) two)), (λ none. absurd (none (words_told c.in-Some.words) (subst (IsSaid (words_told c.in-Some.words)) c.deref.ensures.value c.in-Some.ensures.some))))

pub returns-in-Some-clause-refused : goal.returns-in-Some-clause-refused
returns-in-Some-clause-refused g c = λ two. absurd (runs_not_two g.D.Disk _ _ _ _ _ _ _ _ (c.serve_office.ensures.office (g.S.Source.source_state c.args.input.now)) two)

pub returns-in-Some-clause-wrong : goal.returns-in-Some-clause-wrong
returns-in-Some-clause-wrong g c = λ said names is names_are. runs_wrong g.D.Disk said _ _ _ _ _ _ _ names names_are (runs_as_said g.D.Disk _ said _ _ _ _ _ _ _ (same _ _ _ said c.deref.ensures.value c.in-Some.ensures.some is) (c.serve_office.ensures.office (g.S.Source.source_state c.args.input.now)))

pub returns-in-Some-clause-built_in : goal.returns-in-Some-clause-built_in
returns-in-Some-clause-built_in g c = λ said is none.
    let told = runs_built_in g.D.Disk said _ _ _ _ _ _ _ (built_in g.D.Disk said _ _ _ _ _ c.built_in_text_reads.ensures.answered c.built_in_text_reads-2.ensures.answered none) (runs_as_said g.D.Disk _ said _ _ _ _ _ _ _ (same _ _ _ said c.deref.ensures.value c.in-Some.ensures.some is) (c.serve_office.ensures.office (g.S.Source.source_state c.args.input.now))) in
    (told.0, told.1, no_names c.in-Some.words.texts _ (ap (λ (w : WordsOf). w.texts) (same _ _ _ said c.deref.ensures.value c.in-Some.ensures.some is) ∙ none) c.serve_office.ensures.built_in)

pub returns-in-Some-clause-journal : goal.returns-in-Some-clause-journal
returns-in-Some-clause-journal g c = λ said is.
    let begins = (c.are_alone.ensures.no c.if-are_alone.false).1 in
    let name = named _ _ said begins is in
    runs_journal g.D.Disk said _ _ _ _ _ _ _ c.the_journal_of_an_office_has_no_fault.ensures name.0 name.1 (not_alone _ _ said begins is) (runs_as_said g.D.Disk _ said _ _ _ _ _ _ _ (same _ _ _ said c.deref.ensures.value c.in-Some.ensures.some is) (c.serve_office.ensures.office (g.S.Source.source_state c.args.input.now)))

pub returns-in-Some-clause-store : goal.returns-in-Some-clause-store
returns-in-Some-clause-store g c = λ six. runs_store g.D.Disk _ _ _ _ _ _ _ _ (c.serve_office.ensures.office (g.S.Source.source_state c.args.input.now)) six

pub returns-in-Some-clause-complete : goal.returns-in-Some-clause-complete
returns-in-Some-clause-complete g c = λ said is texts first second doors reads writes. runs_answered g.D.Disk _ _ _ _ _ _ _ _ (c.serve_office.ensures.office (g.S.Source.source_state c.args.input.now)) (λ three. texts (c.serve_office.ensures.unread three)) first second doors reads writes

pub returns-in-Some-clause-pipe : goal.returns-in-Some-clause-pipe
returns-in-Some-clause-pipe g c = λ seven. runs_broke g.D.Disk _ _ _ _ _ _ _ _ (c.serve_office.ensures.office (g.S.Source.source_state c.args.input.now)) seven

pub returns-in-Some-clause-door : goal.returns-in-Some-clause-door
returns-in-Some-clause-door g c = λ ten. runs_door g.D.Disk _ _ _ _ _ _ _ _ (c.serve_office.ensures.office (g.S.Source.source_state c.args.input.now)) ten

-- ---- wrong words

pub returns-in-None-clause-usage : goal.returns-in-None-clause-usage
returns-in-None-clause-usage g c = ((λ is. rw (← c.deref.ensures.value) c.in-None.ensures.none), (λ none. refl))

pub returns-in-None-clause-wrong : goal.returns-in-None-clause-wrong
returns-in-None-clause-wrong g c = λ said names is names_are. absurd (c.in-None.ensures.none said (subst (IsSaid said) (sym c.deref.ensures.value) is))

pub returns-in-None-clause-journal : goal.returns-in-None-clause-journal
returns-in-None-clause-journal g c = λ said is. absurd (c.in-None.ensures.none said (subst (IsSaid said) (sym c.deref.ensures.value) is))

pub returns-in-None-clause-complete : goal.returns-in-None-clause-complete
returns-in-None-clause-complete g c = λ said is texts first second doors reads writes. absurd (c.in-None.ensures.none said (subst (IsSaid said) (sym c.deref.ensures.value) is))
