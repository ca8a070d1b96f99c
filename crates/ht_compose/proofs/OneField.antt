-- Rows that change in one field, which no rule of soundness speaks of.
use Rattle.std.proofs.Common.{ℕ, Bool, List, Option, refl}
use Rattle.ht_compose.proofs.Acted.{MayReplace}
use Rattle.ht_tree.specs.declared.row.Row.{Row}
use Rattle.ht_tree.specs.Tables.{TablesOf}

pub with_started : (u : TablesOf) (row : Row) (started : Bool) → MayReplace u row (record row { started = started })
with_started u row started = record {
  filed = refl;
  ends = refl;
  sound = λ s. record { filed = s.filed; held = s.held; who = s.who; whose = s.whose; when = s.when; how = s.how };
}

pub with_fault : (u : TablesOf) (row : Row) (fault : Option (List ℕ)) → MayReplace u row (record row { fault = fault })
with_fault u row fault = record {
  filed = refl;
  ends = refl;
  sound = λ s. record { filed = s.filed; held = s.held; who = s.who; whose = s.whose; when = s.when; how = s.how };
}
