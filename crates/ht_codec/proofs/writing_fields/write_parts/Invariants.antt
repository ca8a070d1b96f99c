use Rattle.std.proofs.Common.{◌≡◌, ◌++◌, ◌∷◌, length, take}
use Rattle.std.specs.List.{All, flat_map}
use Rattle.ht_codec.specs.Fields.{name, scalar}
use Rattle.ht_codec.proofs.Distinct.{PartFits}
use Rattle.ht_codec.proofs.writing_fields.write_parts.Given as goal

abbrev pub invariant-loop-name : goal.invariant-loop-name
invariant-loop-name l = record {
  bytes : l.out.items ≡ l.fn.out.items ++ (length l.parts ∷ flat_map (λ v. name.text v.0 ++ scalar.text v.1) (take l.name-index l.parts));
  fit : All PartFits (take l.name-index l.parts);
}
