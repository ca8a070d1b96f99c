use Rattle.std.proofs.Common.{◌≡◌, drop}
use Rattle.ht_outside.specs.Scripted.{bytes_named}
use Rattle.ht_outside.proofs.memory_texts.text_named.Given as goal

abbrev pub invariant-loop-known : goal.invariant-loop-known
invariant-loop-known l = bytes_named (drop l.known-index l.texts) l.name ≡ bytes_named l.texts l.name
