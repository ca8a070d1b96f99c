use Rattle.std.proofs.Common.{◌≡◌, ◌++◌, ◌^◌, length, take}
use Rattle.std.specs.Int.{w16}
use Rattle.std.specs.List.{All, flat_map}
use Rattle.ht_codec.specs.Forms.{number}
use Rattle.ht_codec.specs.Fields.{name}
use Rattle.ht_codec.proofs.writing_fields.write_names.Given as goal

abbrev pub invariant-loop-name : goal.invariant-loop-name
invariant-loop-name l = record {
  bytes : l.out.items ≡ l.fn.out.items ++ ((number w16 (2 ^ 16)).text (length l.names) ++ flat_map name.text (take l.name-index l.names));
  fit : All name.Fits (take l.name-index l.names);
}
