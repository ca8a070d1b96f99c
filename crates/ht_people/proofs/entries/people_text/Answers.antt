use Rattle.std.proofs.Common.{◌∙◌, sym}
use Rattle.toml.specs.View.{table_view}
use Rattle.ht_people.proofs.Shapes.{entries_pass}
use Rattle.ht_people.proofs.entries.people_text.Goals as goal

pub returns-clause-passes : goal.returns-clause-passes
returns-clause-passes c = entries_pass (table_view c.args.document.now) _ _ _ (sym c.has_only.ensures ∙ c.if-not-has_only.false) c.in-Some.ensures.value c.in-Some-entries_at.ensures.value c.entries_text.ensures.passes
