use Rattle.std.proofs.Common.{subst}
use Rattle.std.proofs.lemmas.Str.{is_utf8-from_IsUtf8}
use Rattle.std.specs.Prelude.{IsUtf8, ℕ, List}
use Rattle.ht_codec.proofs.writing_fields.bytes_of.Goals as goal

pub returns-clause-utf8 : goal.returns-clause-utf8
returns-clause-utf8 c = is_utf8-from_IsUtf8 c.args.value.now (subst (λ (l : List ℕ). IsUtf8 l) c.as_str.ensures c.as_str.utf8)
