use Rattle.std.proofs.Common.{◌≡◌, ap, ◌∙◌}
use Rattle.std.specs.List.{prefix_len}
use Rattle.ht_expr.proofs.Runs.{run_of_prefix, run_boundary}
use Rattle.ht_expr.specs.Scanning.{is_of}
use Rattle.ht_expr.proofs.scanning.split_run.Goals as goal

pub split_at-requires : goal.split_at-requires
split_at-requires c =
    let end : c.run_length.result ≡ prefix_len (is_of c.args.class) c.args.text.now = c.run_length.ensures ∙ ap (prefix_len (is_of c.args.class)) c.as_bytes.ensures.value in
    rw end (run_boundary c.args.class c.args.text.now c.utf8.text)

pub returns : goal.returns
returns c =
    let end : c.run_length.result ≡ prefix_len (is_of c.args.class) c.args.text.now = c.run_length.ensures ∙ ap (prefix_len (is_of c.args.class)) c.as_bytes.ensures.value in
    rw (c.split_at.ensures.front, c.split_at.ensures.back, end) (run_of_prefix (is_of c.args.class) c.args.text.now)
