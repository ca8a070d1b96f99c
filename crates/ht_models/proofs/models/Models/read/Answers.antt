use Rattle.toml.specs.View.{table_view}
use Rattle.std.proofs.lemmas.Result.{err_from_is_err_and}
use Rattle.ht_models.proofs.Passing.{field_told, models_told}
use Rattle.ht_models.proofs.Shapes.{some_entry}
use Rattle.ht_models.proofs.models.Models.read.Goals as goal

pub returns-in_err-entries : goal.returns-in_err-entries
returns-in_err-entries c =
    let p = err_from_is_err_and c.from_residual-in_err-entries.result c.from_residual-in_err-entries.ensures.1 in
    rw (p.1, p.2) (field_told c.args.text.now (table_view c.in_ok-document.document) c.in_ok-document.ensures.ok _ c.in_err-entries.ensures.passes)

pub of_entries-requires : goal.of_entries-requires
of_entries-requires c = some_entry (table_view c.in_ok-document.document) c.in_ok-entries.entries.items c.in_ok-entries.ensures.ok

pub returns : goal.returns
returns c = models_told c.args.text.now (table_view c.in_ok-document.document) c.in_ok-document.ensures.ok c.in_ok-entries.entries.items c.in_ok-entries.ensures.ok _ c.of_entries.ensures
