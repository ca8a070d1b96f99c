-- How a queue keeps its dues.
use Rattle.std.specs.Prelude.{◌≡◌, ◌+◌, ◌*◌, ◌^◌, ◌≤◌, length, vec_capacity, vec_len}
use Rattle.ht_due.specs.declared.block.TheConstants.{MOST}
use Rattle.ht_due.specs.declared.queue.DueQueue.TheInside.{Inside}
use Rattle.ht_due.specs.Blocks.{AreBlocks, joined}
use Rattle.ht_due.specs.Queues.{QueueOf}

abbrev pub queue_in : Inside → QueueOf
queue_in q = record { dues = joined q.blocks.items; spare = q.room }

pub record IsKept (q : Inside) : Type 0 where
  pub blocks : AreBlocks q.blocks.items
  pub count : q.count ≡ length (joined q.blocks.items)
  pub limit : q.count + q.room ≤ 2 ^ 32
  -- the blocks are enough for the dues that may still come, wherever they come
  pub enough : 1 ≤ q.room → 2 * (q.count + q.room) + MOST ≤ MOST * (vec_len q.blocks + vec_len q.free)
  pub capacity : vec_len q.blocks + vec_len q.free ≤ vec_capacity q.blocks
  pub free_capacity : vec_len q.blocks + vec_len q.free ≤ vec_capacity q.free
