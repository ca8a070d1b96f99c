use Rattle.std.proofs.Common.{drop, filter, map}
use Rattle.serde_json.specs.Data.{array}
use Rattle.ht_base.specs.Role.{contains_role, role_name}
use Rattle.ht_api.specs.Contents.{texts}
use Rattle.ht_api.specs.Writing.{Going, texts_left, tokens_of}
use Rattle.ht_api.proofs.contents.put_roles.Given as goal

abbrev pub invariant-loop-role : goal.invariant-loop-role
invariant-loop-role l =
    Going l.fn.writer l.writer (tokens_of (array (texts (map role_name (filter (contains_role l.set) l.all)))))
    (texts_left (map role_name (filter (contains_role l.set) (drop l.role-index l.all))))
