use Rattle.ht_doors.proofs.Told.{added_told, back_told, fork_told, joined_told, kept_told}
use Rattle.ht_doors.proofs.memory_door.MemoryDoorDoor.TheImpl.Goals as goal

pub fork-tells : goal.fork-tells
fork-tells g x x' c = record {
  links = c.ensures.links;
  back = back_told c.args.self.now c.new.self.now c.ensures.returned;
  fork = fork_told c.result c.args.self.now.failing c.ensures.fork;
  cause = c.ensures.cause;
}

pub leave-tells : goal.leave-tells
leave-tells g x x' c = record {
  links = c.ensures.links;
  added = added_told c.result c.args.self.now c.new.self.now c.args.link c.ensures.added;
  back = kept_told c.result c.args.self.now c.new.self.now c.ensures.returned;
  cause = c.ensures.cause;
}

pub join-tells : goal.join-tells
join-tells g x x' c = record {
  links = c.ensures.links;
  faults = c.ensures.faults;
  back = joined_told c.args.self.now c.args.fork c.new.self.now c.ensures.returned;
}
