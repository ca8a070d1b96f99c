use Rattle.std.proofs.Common.{◌≡◌, ◌∙◌, List, String, Global, map, ap, sym, subst, refl}
use Rattle.ht_program.specs.Named.{words_told}
use Rattle.ht_program.specs.Words.{AreWords, WordsOf}
use Rattle.ht_program.proofs.Options.{bytes_of}
use Rattle.ht_program.proofs.Reported.{reported, unread_input}
use Rattle.ht_program.proofs.Said.{no_names, one_reading}
use Rattle.ht_program.proofs.Statuses.{answered, broke, exact, in_memory, not_two, store}
use Rattle.ht_program.proofs.TextStatuses.{as_said, built_in, journal, wrong}
use Rattle.ht_program.proofs.Unnamed.{without_journal}
use Rattle.ht_program.proofs.top_call.office_alone.Goals as goal

abbrev IsSaid : WordsOf → List (String Global) → Type 0
IsSaid said ws = AreWords (map bytes_of ws) said

-- what other words are read as is the same
same : (words read : List (String Global)) (mine said : WordsOf) → words ≡ read → IsSaid mine words → IsSaid said read → mine ≡ said
same words read mine said is own other = one_reading (map bytes_of read) mine said (subst (IsSaid mine) is own) other

-- ---- the office did what was asked

pub returns-in-Some-clause-usage : goal.returns-in-Some-clause-usage
returns-in-Some-clause-usage g c = ((λ two. absurd (not_two g.D.Disk _ _ _ _ _ _ c.run_office.ensures.office two)), (λ none. absurd (none (words_told c.in-Some.words) (subst (IsSaid (words_told c.in-Some.words)) c.deref.ensures.value c.in-Some.ensures.some))))

pub returns-in-Some-clause-refused : goal.returns-in-Some-clause-refused
returns-in-Some-clause-refused g c = λ two. absurd (not_two g.D.Disk _ _ _ _ _ _ c.run_office.ensures.office two)

pub returns-in-Some-clause-work : goal.returns-in-Some-clause-work
returns-in-Some-clause-work g c = λ not_two. (words_told c.in-Some.words, subst (IsSaid (words_told c.in-Some.words)) c.deref.ensures.value c.in-Some.ensures.some, c.run_office.ensures.office)

pub returns-in-Some-clause-report : goal.returns-in-Some-clause-report
returns-in-Some-clause-report g c = λ said is reports. reported g.D.Disk said _ _ _ _ _ reports (as_said g.D.Disk _ said _ _ _ _ _ (same _ _ _ said c.deref.ensures.value c.in-Some.ensures.some is) c.run_office.ensures.office)

pub returns-in-Some-clause-unread_input : goal.returns-in-Some-clause-unread_input
returns-in-Some-clause-unread_input g c = λ said is reports. unread_input g.D.Disk said _ _ _ _ _ reports (as_said g.D.Disk _ said _ _ _ _ _ (same _ _ _ said c.deref.ensures.value c.in-Some.ensures.some is) c.run_office.ensures.office)

pub returns-in-Some-clause-wrong : goal.returns-in-Some-clause-wrong
returns-in-Some-clause-wrong g c = λ said names is named. wrong g.D.Disk said _ _ _ _ _ names named (as_said g.D.Disk _ said _ _ _ _ _ (same _ _ _ said c.deref.ensures.value c.in-Some.ensures.some is) c.run_office.ensures.office)

pub returns-in-Some-clause-built_in : goal.returns-in-Some-clause-built_in
returns-in-Some-clause-built_in g c = λ said is none.
    let told = built_in g.D.Disk said _ _ _ _ _ c.built_in_text_reads.ensures.answered c.built_in_text_reads-2.ensures.answered none (as_said g.D.Disk _ said _ _ _ _ _ (same _ _ _ said c.deref.ensures.value c.in-Some.ensures.some is) c.run_office.ensures.office) in
    (told.0, told.1, no_names c.in-Some.words.texts _ (ap (λ (w : WordsOf). w.texts) (same _ _ _ said c.deref.ensures.value c.in-Some.ensures.some is) ∙ none) c.run_office.ensures.built_in)

pub returns-in-Some-clause-journal : goal.returns-in-Some-clause-journal
returns-in-Some-clause-journal g c = λ said is. journal g.D.Disk said _ _ _ _ _ c.the_journal_of_an_office_has_no_fault.ensures (without_journal _ said is) (as_said g.D.Disk _ said _ _ _ _ _ (same _ _ _ said c.deref.ensures.value c.in-Some.ensures.some is) c.run_office.ensures.office)

pub returns-in-Some-clause-store : goal.returns-in-Some-clause-store
returns-in-Some-clause-store g c = λ six. (store g.D.Disk _ _ _ _ _ _ c.run_office.ensures.office six).1

pub returns-in-Some-clause-in_memory : goal.returns-in-Some-clause-in_memory
returns-in-Some-clause-in_memory g c = λ said is none.
    let told = in_memory g.D.Disk said _ _ _ _ _ (as_said g.D.Disk _ said _ _ _ _ _ (same _ _ _ said c.deref.ensures.value c.in-Some.ensures.some is) c.run_office.ensures.office) none in
    (told.0, told.1, ap (λ d. d.first) told.2, ap (λ d. d.second) told.2)

pub returns-in-Some-clause-exact : goal.returns-in-Some-clause-exact
returns-in-Some-clause-exact g c = λ said from step is serves three four five six seven eight. exact g.D.Disk said _ _ _ _ _ from step serves (as_said g.D.Disk _ said _ _ _ _ _ (same _ _ _ said c.deref.ensures.value c.in-Some.ensures.some is) c.run_office.ensures.office) three four five six seven eight

pub returns-in-Some-clause-complete : goal.returns-in-Some-clause-complete
returns-in-Some-clause-complete g c = λ said is texts first second reads writes. answered g.D.Disk _ _ _ _ _ _ c.run_office.ensures.office (λ three. texts (c.run_office.ensures.unread three)) first second reads writes

pub returns-in-Some-clause-pipe : goal.returns-in-Some-clause-pipe
returns-in-Some-clause-pipe g c = λ seven. broke g.D.Disk _ _ _ _ _ _ c.run_office.ensures.office seven

-- ---- wrong words

pub returns-in-None-clause-usage : goal.returns-in-None-clause-usage
returns-in-None-clause-usage g c = ((λ is. rw (← c.deref.ensures.value) c.in-None.ensures.none), (λ none. refl))

pub returns-in-None-clause-report : goal.returns-in-None-clause-report
returns-in-None-clause-report g c = λ said is. absurd (c.in-None.ensures.none said (subst (IsSaid said) (sym c.deref.ensures.value) is))

pub returns-in-None-clause-wrong : goal.returns-in-None-clause-wrong
returns-in-None-clause-wrong g c = λ said names is named. absurd (c.in-None.ensures.none said (subst (IsSaid said) (sym c.deref.ensures.value) is))

pub returns-in-None-clause-journal : goal.returns-in-None-clause-journal
returns-in-None-clause-journal g c = λ said is. absurd (c.in-None.ensures.none said (subst (IsSaid said) (sym c.deref.ensures.value) is))

pub returns-in-None-clause-exact : goal.returns-in-None-clause-exact
returns-in-None-clause-exact g c = λ said from step is. absurd (c.in-None.ensures.none said (subst (IsSaid said) (sym c.deref.ensures.value) is))

pub returns-in-None-clause-complete : goal.returns-in-None-clause-complete
returns-in-None-clause-complete g c = λ said is texts first second reads writes. absurd (c.in-None.ensures.none said (subst (IsSaid said) (sym c.deref.ensures.value) is))
