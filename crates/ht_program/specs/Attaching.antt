-- The disks of a journal.
use Rattle.std.specs.Prelude.{◌≡◌, ◌≢◌, ◌⊎◌, Result, Ok, Err, IfSome}
use Rattle.ht_desk.specs.declared.fault.OpenFault.{OpenFault}
use Rattle.ht_desk.specs.declared.fault.OpenFault.TheVariants.{Store, Memory}
use Rattle.ht_outside.specs.Causes.{RoseWhere}
use Rattle.ht_outside.specs.Disks.{AddsNoImage}
use Rattle.ht_outside.specs.declared.disk.Disk.{Ghosts}

-- it is told of an attaching that there is no memory for the name, or that the disk failed
abbrev pub IsOfDisk : Result (Unit {0}) OpenFault → Type 0
IsOfDisk (Ok done) = Unit {0}
IsOfDisk (Err why) = (why ≡ Memory) ⊎ (why ≡ Store)

-- A disk was attached, or it failed, or there was no memory for its name. What it holds stays.
pub record Attaches {D : Type 0} (d : Ghosts D) (old new : D) (result : Result (Unit {0}) OpenFault) : Type 0 where
  pub told : IsOfDisk result
  pub cause : RoseWhere (result ≡ Err Store) (d.faults old) (d.faults new)
  pub still : result ≢ Err Store → d.faults new ≡ d.faults old
  pub file : d.gives new ≡ d.gives old
  pub room : d.room new ≡ d.room old
  pub tells : d.tells_images new ≡ d.tells_images old
  pub images : AddsNoImage (d.tells_images old) (d.may_leave old) (d.may_leave new)
  pub in_room : IfSome (d.room old) (λ most. result ≢ Err Store)

-- two disks
pub record Disks (D : Type 0) : Type 0 where
  pub first : D
  pub second : D

abbrev pub disks : {D : Type 0} → D → D → Disks D
disks first second = record { first = first; second = second }

-- the first is attached, and then the second
pub data AttachesBoth {D : Type 0} (d : Ghosts D) (old new : Disks D) (result : Result (Unit {0}) OpenFault) : Type 0 where
  not_first : (why : OpenFault) → result ≡ Err why → Attaches d old.first new.first result → new.second ≡ old.second → AttachesBoth d old new result
  then_second : Attaches d old.first new.first (Ok tt) → Attaches d old.second new.second result → AttachesBoth d old new result
