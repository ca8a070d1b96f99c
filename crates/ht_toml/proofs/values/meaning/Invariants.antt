use Rattle.std.proofs.Common.{◌≡◌, drop, map}
use Rattle.ht_toml.specs.Values as spec
use Rattle.ht_toml.proofs.values.meaning.Given as goal

abbrev pub invariant-loop-word : goal.invariant-loop-word
invariant-loop-word g l = spec.meaning (map (λ w. (w.0.now, w.1)) l.words) l.text ≡ spec.meaning (map (λ w. (w.0.now, w.1)) (drop l.word-index l.words)) l.text
