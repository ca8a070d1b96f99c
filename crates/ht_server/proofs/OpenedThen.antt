-- An office that was opened on two disks was served, or it wasn't opened.
use Rattle.std.proofs.Common.{◌≡◌, ℕ, Result, Ok, Err, refl, sym, ap, subst, ◌∙◌}
use Rattle.ht_desk.specs.declared.desk_state.DeskState.{DeskState}
use Rattle.ht_desk.specs.declared.fault.OpenFault.{OpenFault}
use Rattle.ht_desk.specs.Opening.{Opens}
use Rattle.ht_desk.specs.Replaying.{TextsOf}
use Rattle.ht_doors.specs.Doors.{DoorState}
use Rattle.ht_outside.specs.Tells.{SinkState}
use Rattle.ht_outside.specs.declared.disk.Disk.{Ghosts}
use Rattle.ht_pool.specs.declared.crew.Crew.{Crew}
use Rattle.ht_program.specs.Attaching.{Attaches, Disks}
use Rattle.ht_program.specs.Words.{Service, WordsOf}
use Rattle.ht_program.proofs.PublicLaws.{kept_on, stands}
use Rattle.ht_server.specs.declared.service.ServiceEnd.{ServiceEnd}
use Rattle.ht_server.specs.Services.{IsCrewFor, ServedOn, ServesOver}
use Rattle.ht_server.proofs.Counting.{counted}

pub served_on : {D : Type 0} (d : Ghosts D) (service : Service) (said : WordsOf) (texts : TextsOf) (before mid after : Disks D) (first : Attaches d before.first mid.first (Ok tt)) (second : Attaches d before.second after.second (Ok tt))
    (disk : D) (desk : DeskState) (opens : Opens d texts said.limit mid.first disk (Ok desk)) (crew : Crew) (doors_before doors_after : DoorState) (old new : SinkState) (ending : ServiceEnd)
    → IsCrewFor service crew → ServesOver d crew desk disk after.first doors_before doors_after old new ending → ServedOn d service said texts before after doors_before doors_after old new ending
served_on d service said texts before mid after first second disk desk opens crew doors_before doors_after old new ending crew_for serves =
    let st = stands d said texts before mid after first second disk desk opens in
    let s = serves (d.faults after.second) texts st.state st.at in
    record {
      crew = crew;
      crew_for = crew_for;
      opened = st.state;
      last = s.0;
      keeps = kept_on d said texts before mid after first second disk desk opens s.0 s.1 s.3;
      served = s.2;
      counted = counted said.limit st.state s.0 s.2.runs.history st.opened s.2.runs.legal s.2.runs.after_is;
    }
