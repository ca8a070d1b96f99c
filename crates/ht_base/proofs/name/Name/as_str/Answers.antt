use Rattle.std.proofs.Common.{sym, subst}
use Rattle.std.specs.Str.{IsUtf8}
use Rattle.ht_base.proofs.Spelling.{name_is_text}
use Rattle.ht_base.proofs.name.Name.as_str.Goals as goal

pub from_utf8_unchecked-requires : goal.from_utf8_unchecked-requires
from_utf8_unchecked-requires c = subst IsUtf8 (sym c.as_bytes-bytes.ensures.value) (name_is_text c.args.self.now c.as_bytes-bytes.ensures.name)
