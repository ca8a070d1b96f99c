use Rattle.ht_machine.proofs.Left.{its_event_is_valid, nothing_changes, of_its_moment}
use Rattle.ht_machine.proofs.laws.what_is_left_is_of_its_moment.Goals as goal

pub returns-clause-nothing : goal.returns-clause-nothing
returns-clause-nothing c = λ t e r u d. nothing_changes t e r u d

pub returns-clause-left : goal.returns-clause-left
returns-clause-left c = λ t e k r u d. (of_its_moment t e k r u d).left

pub returns-clause-later : goal.returns-clause-later
returns-clause-later c = λ t e k r u d. (of_its_moment t e k r u d).later

pub returns-clause-last : goal.returns-clause-last
returns-clause-last c = λ t e k r u d. (of_its_moment t e k r u d).last

pub returns-clause-valid : goal.returns-clause-valid
returns-clause-valid c = λ t e k r u own valid low d of. its_event_is_valid t e k r u own valid low d of
