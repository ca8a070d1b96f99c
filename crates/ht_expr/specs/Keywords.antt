-- The words with a meaning of their own.
use Rattle.std.specs.Prelude.{ℕ, List, codes}
use Rattle.ht_expr.specs.declared.keyword.Keyword.{Keyword}
use Rattle.ht_expr.specs.declared.keyword.Keyword.TheVariants as keyword
use Rattle.ht_expr.specs.Tokens.{Token, word}

abbrev pub spelling : Keyword → List ℕ
spelling keyword.If = codes "if"
spelling keyword.Then = codes "then"
spelling keyword.Else = codes "else"
spelling keyword.Or = codes "or"
spelling keyword.And = codes "and"
spelling keyword.Not = codes "not"
spelling keyword.True = codes "true"
spelling keyword.False = codes "false"
spelling keyword.Priority = codes "priority"
spelling keyword.Initiator = codes "initiator"
spelling keyword.In = codes "in"
spelling keyword.Out = codes "out"
spelling keyword.Set = codes "set"
spelling keyword.Made = codes "made"
spelling keyword.Finished = codes "finished"
spelling keyword.Done = codes "done"
spelling keyword.CountText = codes "countText"
spelling keyword.CountTrue = codes "countTrue"
spelling keyword.Nobody = codes "nobody"
spelling keyword.Everybody = codes "everybody"
spelling keyword.User = codes "user"
spelling keyword.Group = codes "group"
spelling keyword.Union = codes "union"
spelling keyword.Intersect = codes "intersect"
spelling keyword.Except = codes "except"
spelling keyword.When = codes "when"

-- the keyword as a token
abbrev pub said : Keyword → Token
said k = word (spelling k)
