-- Worked examples of the definitions. A wrong reading of one fails the check.
use Rattle.std.specs.Prelude.{◌≡◌, [], None, Some, codes, false, refl, true}
use Rattle.std.specs.Fmt.{digits}
use Rattle.ht_base.specs.declared.event.Command.TheVariants.{Claim, Complete, Create, Start}
use Rattle.ht_base.specs.declared.event.Event.TheVariants.{Ask}
use Rattle.ht_base.specs.declared.reply.Answer.TheVariants.{Done, Refused}
use Rattle.ht_base.specs.declared.reply.Refusal.TheVariants.{Store}
use Rattle.ht_base.specs.declared.state.State.TheVariants.{Ready}
use Rattle.ht_load.specs.Answers.{is_done}
use Rattle.ht_load.specs.Draws.{drawn, next}
use Rattle.ht_load.specs.Requests.{event_of, request, thrice}
use Rattle.ht_load.specs.Sums.{sums_line}

-- ---- what is drawn from seed 7

the_first : next 7 ≡ 9098160460397411210
unfolding next
the_first = refl

its_number : drawn 9098160460397411210 ≡ 1059165278
its_number = refl

the_second : next 9098160460397411210 ≡ 17628806926561717905
unfolding next
the_second = refl

three_numbers : thrice 7 ≡ 16723372171710603212
unfolding next
three_numbers = refl

-- ---- requests

-- the first of seed 7, where there is no task: 2052263231 leaves 15
a_create : request 7 0 0 ≡ Ask (record { 0 = 0 }) (codes "p15") None (record { 0 = 0 }) (Create (Some (codes "unit")) [] None)
unfolding next digits
a_create = refl

-- the same numbers where there are three tasks: 1059165278 leaves 2, a start, and 1946856753 leaves 0, the first of them
a_start : request 7 5 3 ≡ Ask (record { 0 = 5 }) (codes "p15") None (record { 0 = 1 }) Start
unfolding next digits
a_start = refl

-- the second, behind the three numbers of the first, with one task
a_claim : request 16723372171710603212 1 1 ≡ Ask (record { 0 = 1 }) (codes "p9") None (record { 0 = 1 }) Claim
unfolding next digits
a_claim = refl

-- 7 leaves 3 by 4, 16 leaves 0 by 16, and 9 leaves 1 by 4
a_complete : event_of 8 4 7 16 9 ≡ Ask (record { 0 = 8 }) (codes "p0") None (record { 0 = 2 }) (Complete [])
unfolding digits
a_complete = refl

-- a multiple of 4 asks for a create, however many tasks there are
one_in_four : event_of 8 4 12 1 9 ≡ Ask (record { 0 = 8 }) (codes "p1") None (record { 0 = 0 }) (Create (Some (codes "unit")) [] None)
unfolding digits
one_in_four = refl

-- where there is no task, so does any number
no_task : event_of 8 0 7 1 9 ≡ Ask (record { 0 = 8 }) (codes "p1") None (record { 0 = 0 }) (Create (Some (codes "unit")) [] None)
unfolding digits
no_task = refl

-- ---- answers

a_done : is_done (Done (record { 0 = 1 }) Ready None) ≡ true
a_done = refl

a_refusal : is_done (Refused Store) ≡ false
a_refusal = refl

-- ---- how a load is told

no_requests : sums_line (record { requests = 0; accepted = 0; refused = 0; tasks = 0 }) ≡ codes "requests 0 accepted 0 refused 0 tasks 0\n"
unfolding digits
no_requests = refl

-- over a journal with three tasks, of which one was created by this load
two_requests : sums_line (record { requests = 2; accepted = 1; refused = 1; tasks = 3 }) ≡ codes "requests 2 accepted 1 refused 1 tasks 3\n"
unfolding digits
two_requests = refl
