-- Laws of what comes of commands, for the proofs of crates above.
pub use Rattle.ht_owner.proofs.Closing.{Closes, effect_closes}
pub use Rattle.ht_owner.proofs.EffectsSound.{HasBegun, begun_before}
